use Rattle.std.proofs.Common.{sym, ◌∙◌, subst, arith}
use Rattle.report_audit.proofs.Common.{BlockRefusal, FailsAsLine, FailsAt, IsWrongBatch}
use Rattle.report_audit.proofs.report.fault.block_fault.Goals as goal

pub returns-in-Cut : goal.returns-in-Cut
returns-in-Cut c = λ roads vehicles rounds workers text fails. FailsAsLine.in_block c.in-Cut.lines (record {
  closing = c.args.closing;
  line_is = omega (arith, c.saturating_add.ensures, c.saturating_add-line.ensures);
  fails = subst (λ (r : BlockRefusal). FailsAt roads vehicles rounds workers text (IsWrongBatch r) c.args.closing) c.in-Cut.is
      (fails (λ e. let no = sym c.in-Cut.is ∙ e in cc));
})

pub returns-in-Form : goal.returns-in-Form
returns-in-Form c = λ roads vehicles rounds workers text fails. FailsAsLine.in_block c.in-Form.lines (record {
  closing = c.args.closing;
  line_is = omega (arith, c.saturating_add-in-Form.ensures, c.saturating_add-line.ensures);
  fails = subst (λ (r : BlockRefusal). FailsAt roads vehicles rounds workers text (IsWrongBatch r) c.args.closing) c.in-Form.is
      (fails (λ e. let no = sym c.in-Form.is ∙ e in cc));
})
