use Rattle.std.proofs.Common.{◌≡◌, ◌+◌, ◌-◌, ◌&&◌, true, length, eqb, sym, ap, ◌∙◌}
use Rattle.input_rows.proofs.Common.{list_all, range_with_len, record_at, is_empty_in}
use Rattle.input_rows.proofs.script.RangeLemmas.{range_with_len-first}
use Rattle.input_rows.proofs.script.fields.are_empty.Goals as goal

pub loop-column-preserved : goal.loop-column-preserved
loop-column-preserved c =
    let fields = record_at c.args.rows.now c.args.row in
    let column = c.loop-column.column in
    let rest = list_all (is_empty_in fields) (range_with_len (column + 1) (c.args.end - (column + 1))) in
    let empty : is_empty_in fields column ≡ true = ap (λ bytes. eqb (length bytes) 0) (sym c.field.ensures) ∙ sym c.is_empty.ensures ∙
    c.if-not-is_empty.false in
    sym (ap (list_all (is_empty_in fields)) (range_with_len-first column c.args.end c.loop-column-test.true) ∙ ap (λ b. b && rest) empty)
    ∙ c.loop-column.invariant
