use Rattle.std.proofs.Common.{◌≡◌, ◌-◌, List, [], ◌∷◌, ◌++◌, length, take, ap, ◌∙◌, subst, arith, IfNone, length-append}
use Rattle.std.proofs.Math.Seq.{take-append_seam}
use Rattle.stop_orders.specs.declared.task.leg.Leg.{Leg}
use Rattle.trip_graph.proofs.Common.{travel_time, IsServable, Task}
use Rattle.trip_graph.proofs.vehicle.route_cost.cost_with.Goals as goal

-- what was put last is taken off again
popped : (old whole new : List Leg) (leg : Leg) → whole ≡ old ++ leg ∷ [] → new ≡ take (length whole - 1) whole → new ≡ old
popped old whole new leg is rest =
    let long : length whole - 1 ≡ length old = omega (arith, ap length is, length-append old (leg ∷ [])) in
    rest ∙ rw (long, is) (take-append_seam old (leg ∷ []))

pub returns-clause-none : goal.returns-clause-none
returns-clause-none g c =
    let task = c.args.task.now in
    let longer : List Leg → Task = λ legs. record task { riders = record { items = legs } } in
    subst (λ (t : Task). IfNone c.in_ok-cost.cost (IsServable (travel_time c.args.times.now) t → ⊥)) (ap longer c.push.ensures.items) c.in_ok-cost.ensures.none

pub returns-clause-task : goal.returns-clause-task
returns-clause-task g c =
    let task = c.args.task.now in
    let with : List Leg → Task = λ legs. record task { riders = record { items = legs } } in
    ap with (popped task.riders.items c.push.new.self.items c.pop.new.self.items c.args.leg c.push.ensures.items c.pop.ensures.rest)
