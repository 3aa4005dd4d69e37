use Rattle.report_audit.proofs.Common.{Extent, IsWrongBatch, err_from_is_err_and, journal_of}
use Rattle.report_audit.proofs.report.FaultLemmas.{fails_at}
use Rattle.report_audit.proofs.report.entry.audit_entry.Goals as goal

pub returns-in_err-between : goal.returns-in_err-between
returns-in_err-between g c =
    let p = err_from_is_err_and c.from_residual.result c.from_residual.ensures.1 in
    rw (p.1, p.2) (c.in_err-between.ensures c.args.context.now.settings.now c.args.context.now.network.now
    (Extent.within c.args.round.now (journal_of c.args.book.now)) tt)

pub returns-in-Ok-Some : goal.returns-in-Ok-Some
returns-in-Ok-Some g c =
    let read = rw c.in-Ok-Some.field-0-is at c.in-Ok-Some.ensures in
    read c.args.text.now c.in_ok-between.ensures.0

pub returns-in-Ok-None : goal.returns-in-Ok-None
returns-in-Ok-None g c =
    let other = rw c.in-Ok-None.field-0-is at c.in-Ok-None.ensures in
    c.wrong_line.ensures c.args.context.now.settings.now c.args.context.now.network.now (Extent.within c.args.round.now (journal_of c.args.book.now)) (
      c.in_ok-between.between.line.now,
      c.in_ok-between.between.after.now,
      c.in_ok-between.ensures.0,
      (c.in_ok-between.between.next, c.in_ok-between.ensures.1),
      other,
    )

pub returns-in-Err : goal.returns-in-Err
returns-in-Err g c = λ vehicles rounds workers read of whole right.
    c.block_fault.ensures c.args.context.now.network.now vehicles rounds workers c.args.context.now.report.now
    (λ some. fails_at c.args.context.now.settings.now c.args.context.now.network.now c.args.context.now.report.now c.args.text.now
    (Extent.within c.args.round.now (journal_of c.args.book.now)) c.line_at.result c.line_at.ensures
    (IsWrongBatch c.in-Err.refusal) (c.in-Err.ensures some c.args.text.now c.in_ok-between.ensures.0) vehicles rounds workers read of whole right)
