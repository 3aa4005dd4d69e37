use Rattle.std.proofs.Common.{ap}
use Rattle.report_audit.proofs.Common.{Batch}
use Rattle.report_audit.proofs.report.ClosingLemmas.{batch_known, takes_close}
use Rattle.report_audit.proofs.report.close.audit_close.Goals as goal

pub audit_block-found-requires-clause-nodes : goal.audit_block-found-requires-clause-nodes
audit_block-found-requires-clause-nodes g c κs within =
    batch_known c.args.context.now.settings.now c.args.context.now.network.now c.args.book.now c.args.snapshot.now c.requires.book c.requires.sealed

pub returns-in_ok-_reply-in-Ok : goal.returns-in_ok-_reply-in-Ok
returns-in_ok-_reply-in-Ok g c =
    takes_close c.args.context.now.settings.now c.args.context.now.network.now c.args.book.now c.apply.new.self c.args.snapshot.now c.args.lane
    c.snapshot.inside.batch c.next_position-position.result
    c.args.between.line.now c.args.between.after.now c.in-Ok.block.rest.now c.in-Ok.block.outcome c.in_ok-_reply-in-Ok._reply
    (ap (λ (b : Batch). b.number) c.snapshot.view_is) c.is_close_line.ensures.low c.requires.sealed c.next_position-position.ensures
    (c.in_ok-is_close_line.ensures.line.0 c.if-not-branch.false) c.in-Ok.ensures.good c.in_ok-_reply-in-Ok.ensures.applied
