use Rattle.std.proofs.Common.{◌≡◌, ◌-◌}
use Rattle.input_rows.proofs.Common.{list_all, range_with_len, record_at, is_empty_in}
use Rattle.input_rows.proofs.script.fields.are_empty.Given as goal

abbrev pub invariant-loop-column : goal.invariant-loop-column
invariant-loop-column l =
    list_all (is_empty_in (record_at l.rows l.row)) (range_with_len l.column (l.end - l.column))
    ≡ list_all (is_empty_in (record_at l.rows l.row)) (range_with_len l.first (l.end - l.first))
