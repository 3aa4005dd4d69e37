-- What is read of rows so far, and where it ends.
use Rattle.std.proofs.Common.{◌≡◌, ◌≢◌, ℕ, ◌+◌, ◌*◌, ◌==◌, List, [], ◌∷◌, ◌++◌, Ok, Err, not, true, length, refl, ap, ◌∙◌, arith, append_assoc}
use Rattle.pool_io.proofs.Common.{nat_tests, Reader, records_of, even_rows, cut_rows, HasRead, UnequalLength}
use Rattle.std.specs.Borrow.{Bor}
use Rattle.pool_io.proofs.CutRows.{position_from-cut_rows, position_from-first, length-cut_rows}
use Rattle.pool_io.proofs.RecordList.{records_of-begin}

-- no row is uneven
pub even_rows-all : (columns count : ℕ) (fields : List (List ℕ)) → length fields ≡ count * columns →
    even_rows columns (cut_rows count columns fields) ≡ Ok (record { columns = columns; records = cut_rows count columns fields })
even_rows-all columns count fields flat = rw (position_from-cut_rows count columns fields 1 flat) refl

-- the next row is uneven
pub even_rows-uneven : (bytes : List ℕ) (first row : List (List ℕ)) (columns count : ℕ) (fields : List (List ℕ)) (reader : Reader (Bor (List ℕ))) →
    length fields ≡ count * columns → length row ≢ columns
    → HasRead bytes (first ∷ cut_rows count columns fields ++ row ∷ []) reader
    → (rows : List (List (List ℕ))) × (records_of bytes ≡ first ∷ rows) × (even_rows columns rows ≡ Err (UnequalLength (count + 1)))
even_rows-uneven bytes first row columns count fields reader flat uneven read =
    let all = records_of-begin bytes (first ∷ cut_rows count columns fields ++ row ∷ []) reader.state read.rest read.reached in
    let joined = append_assoc (cut_rows count columns fields) (row ∷ []) all.0 in
    let here : not (length row == columns) ≡ true = grind (arith, nat_tests) in
    let place : 1 + length (cut_rows count columns fields) ≡ count + 1 = rw length-cut_rows (omega arith) in
    let found = position_from-first (λ (r : List (List ℕ)). not (length r == columns)) 1 (cut_rows count columns fields) row all.0
    (position_from-cut_rows count columns fields 1 flat) here in
    (cut_rows count columns fields ++ row ∷ all.0, all.1 ∙ ap (λ (rows : List (List (List ℕ))). first ∷ rows) joined, rw (found, place) refl)
