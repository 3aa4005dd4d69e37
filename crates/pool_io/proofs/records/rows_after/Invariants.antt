use Rattle.std.proofs.Common.{◌≡◌, ℕ, ◌*◌, ◌^◌, ◌<◌, List, [], ◌∷◌, length}
use Rattle.pool_io.proofs.Common.{AreEnds, cut_fields, cut_rows, HasRead}
use Rattle.pool_io.proofs.records.rows_after.Given as goal

abbrev pub invariant-records : goal.invariant-records
invariant-records l =
    (length (cut_fields 0 l.ends.items l.bytes.items) ≡ l.count * l.columns) × (l.count * l.columns < 2 ^ 64) × AreEnds 0 l.ends.items (length l.bytes.items)
    × ((bytes : List ℕ) (first : List (List ℕ)) → HasRead bytes (first ∷ []) l.fn.reader →
    HasRead bytes (first ∷ cut_rows l.count l.columns (cut_fields 0 l.ends.items l.bytes.items)) l.reader)
