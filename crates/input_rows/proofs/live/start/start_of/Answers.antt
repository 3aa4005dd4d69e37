use Rattle.std.proofs.Common.{sym, ◌∙◌, arith}
use Rattle.input_rows.proofs.live.RowLemmas.{start-second}
use Rattle.input_rows.proofs.live.start.start_of.Goals as goal

pub returns-in-Err-Header : goal.returns-in-Err-Header
returns-in-Err-Header c =
    let at = c.in-Err-Header in
    start-second c.args.line.now c.header.result.now at.field-0 c.other_start_of.result (sym c.is_empty.ensures ∙ c.if-is_empty.false) (omega arith)
    c.header.ensures.header
    (at.ensures.refused (λ e. let no = sym at.field-0-is ∙ e in absurd cc)) c.other_start_of.ensures

pub returns-in-Err-UnequalLength : goal.returns-in-Err-UnequalLength
returns-in-Err-UnequalLength c =
    let at = c.in-Err-UnequalLength in
    start-second c.args.line.now c.header.result.now at.field-0 c.other_start_of-in-Err-UnequalLength.result (sym c.is_empty.ensures ∙ c.if-is_empty.false)
    (omega arith) c.header.ensures.header
    (at.ensures.refused (λ e. let no = sym at.field-0-is ∙ e in absurd cc)) c.other_start_of-in-Err-UnequalLength.ensures
