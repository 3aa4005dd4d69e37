use Rattle.std.proofs.Common.{ap, subst}
use Rattle.dispatch_engine.proofs.Common.{on_ok_weaker, Close, HasTaken}
use Rattle.dispatch_engine.proofs.lanes.lane.close_batch.Goals as goal

pub returns-clause-closed : goal.returns-clause-closed
returns-clause-closed g c =
    let outcome = c.in_ok-outcome.outcome in
    on_ok_weaker c.take.result
    (λ taken. (
      outcome,
      c.in_ok-outcome.ensures,
      subst (λ n. HasTaken c.args.book.now.start.nodes c.args.pass.now (Close n outcome) c.take.new.pass)
          (ap (λ b. b.number) c.snapshot.view_is) taken,
    ))
    c.take.ensures.taken
