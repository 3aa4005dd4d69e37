-- What the rows after the header say of the whole table.
use Rattle.std.proofs.Common.{◌≡◌, ◌≢◌, ℕ, List, [], ◌∷◌, Result, Ok, Err, Bor, false, length, refl, sym, IfOk, IfErr, OnOk}
use Rattle.pool_io.proofs.Common.{false≢true, Reader, Table, header_fields, table_of, records_of, even_rows, HasRead, OutOfMemory}
use Rattle.std.specs.Result.{is_err}
use Rattle.pool_io.specs.declared.records.RowFault.{RowFault}
use Rattle.pool_io.proofs.IsRecord.{is_record-same}

pub on_ok : {T E P : Type 0} (r : Result T E) → is_err r ≡ false → OnOk r P → P
on_ok (Ok x) e h = h
on_ok (Err x) e h = absurd (false≢true (sym e))

-- the rows after the first record are answered so
abbrev pub AfterFirst : ℕ → Reader (Bor (List ℕ)) → Result Table RowFault → Type 0
AfterFirst columns reader answer = (bytes : List ℕ) (first : List (List ℕ)) → HasRead bytes (first ∷ []) reader
    → (rows : List (List (List ℕ))) × (records_of bytes ≡ first ∷ rows) × (even_rows columns rows ≡ answer)

under_header : (bytes header : List ℕ) (columns : ℕ) (reader : Reader (Bor (List ℕ))) (answer : Result Table RowFault) →
    HasRead bytes (header_fields header ∷ []) reader
    → length (header_fields header) ≡ columns → AfterFirst columns reader answer → table_of header bytes ≡ answer
under_header bytes header columns reader answer read long after =
    let rest = after bytes (header_fields header) read in
    rw (rest.1, is_record-same (header_fields header) (header_fields header) refl, long) rest.2

pub table_under : (r : Result Table RowFault) (bytes header : List ℕ) (columns : ℕ) (reader : Reader (Bor (List ℕ))) →
    HasRead bytes (header_fields header ∷ []) reader
    → length (header_fields header) ≡ columns → IfOk r (λ table. AfterFirst columns reader (Ok table)) → IfOk r (λ table. table_of header bytes ≡ Ok table)
table_under (Ok table) bytes header columns reader read long after = under_header bytes header columns reader (Ok table) read long after
table_under (Err fault) bytes header columns reader read long after = tt

pub refused_under : (r : Result Table RowFault) (bytes header : List ℕ) (columns : ℕ) (reader : Reader (Bor (List ℕ))) →
    HasRead bytes (header_fields header ∷ []) reader
    → length (header_fields header) ≡ columns → IfErr r (λ fault. fault ≢ OutOfMemory → AfterFirst columns reader (Err fault)) →
    IfErr r (λ fault. fault ≢ OutOfMemory → table_of header bytes ≡ Err fault)
refused_under (Ok table) bytes header columns reader read long after = tt
refused_under (Err fault) bytes header columns reader read long after = λ known. under_header bytes header columns reader (Err fault) read long (after known)
