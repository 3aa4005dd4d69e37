use Rattle.std.proofs.Common.{arith}
use Rattle.assignment_search.proofs.ExchangeLemmas.{no_better}
use Rattle.assignment_search.proofs.exchange.better_change.Goals as goal

pub returns : goal.returns
returns c =
    no_better c.args.graph.now c.args.plan.now c.requires
    (λ v k l row. c.loop-vehicle.invariant v k (omega (arith, l, c.vehicle_count-vehicle-end.ensures.value, c.loop-vehicle-test.false)) row)
