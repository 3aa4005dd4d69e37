use Rattle.std.proofs.Common.{ap, refl}
use Rattle.live_dispatch.proofs.Common.{Batch, Close}
use Rattle.live_dispatch.specs.Closing.{StopsClose}
use Rattle.live_dispatch.proofs.caught.close_open.Goals as goal

pub returns-in_default-clause-closed : goal.returns-in_default-clause-closed
returns-in_default-clause-closed g c = StopsClose.unwritten refl

pub returns-clause-closed : goal.returns-clause-closed
returns-clause-closed g c =
    c.close_in.ensures.closed c.args.solver.now.settings.now c.args.solver.now.network.now c.args.snapshot.now c.in-Ok.outcome refl
    (ap (λ (b : Batch). Close b.number c.in-Ok.outcome) c.snapshot.view_is) c.in-Ok.ensures
