use Rattle.std.proofs.Common.{◌≡◌, ◌++◌, take, length}
use Rattle.pool_io.proofs.Common.{fields_of, AreEnds, cut_fields}
use Rattle.pool_io.proofs.records.append_fields.Given as goal

abbrev pub invariant-loop-place : goal.invariant-loop-place
invariant-loop-place l =
    (cut_fields 0 l.ends.items l.bytes.items ≡ cut_fields 0 l.fn.ends.items l.fn.bytes.items ++ take l.place (fields_of l.row)) × AreEnds 0 l.ends.items
    (length l.bytes.items)
