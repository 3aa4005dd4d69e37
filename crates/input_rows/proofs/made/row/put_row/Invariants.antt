use Rattle.std.proofs.Common.{◌≡◌, ◌++◌, drop}
use Rattle.input_rows.proofs.Common.{csv_line}
use Rattle.input_rows.proofs.made.row.put_row.Given as goal

abbrev pub invariant-loop-place : goal.invariant-loop-place
invariant-loop-place l = l.text.items ++ csv_line (drop l.place l.fields) ≡ l.initial.text.items ++ csv_line l.fields
