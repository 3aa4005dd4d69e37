use Rattle.std.proofs.Common.{ap}
use Rattle.report_past.proofs.TakeLemmas.{close_takes, no_closing}
use Rattle.request_book.specs.values.Batch.{Batch}
use Rattle.report_past.proofs.close.take_close.Goals as goal

pub returns-then-not-branch-clause-close : goal.returns-then-not-branch-clause-close
returns-then-not-branch-clause-close g c =
    no_closing c.in_ok-is_close_line.field-0 c.args.book.now c.args.snapshot.now c.args.line.now c.next_position-position.result c.snapshot.inside.batch
    (ap (λ (b : Batch). b.number) c.snapshot.view_is) c.next_position-position.ensures c.in_ok-is_close_line.ensures c.if-not-branch.true

pub returns-in_ok-notices-in-Ok-clause-close : goal.returns-in_ok-notices-in-Ok-clause-close
returns-in_ok-notices-in-Ok-clause-close g c =
    close_takes c.args.context.now.settings.now c.args.context.now.network.now c.args.context.now.fleet.now c.args.context.now.judge c.args.book.now
    c.enter_close.new.book c.args.snapshot.now c.args.line.now c.args.after.now c.in-Ok.block.rest.now c.in_ok-notices-in-Ok.field-0.items
    c.in-Ok.block.outcome c.next_position-position.result c.snapshot.inside.batch (ap (λ (b : Batch). b.number) c.snapshot.view_is)
    c.next_position-position.ensures c.in-Ok.ensures.block ((c.in_ok-is_close_line.ensures c.in-Ok.block.outcome).0 c.if-not-branch.false)
    c.in_ok-notices-in-Ok.ensures
