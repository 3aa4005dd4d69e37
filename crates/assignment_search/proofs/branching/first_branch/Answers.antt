use Rattle.std.proofs.Common.{◌≡◌, ◌<◌, ℕ, subst, ⊎_elim, arith}
use Rattle.assignment_search.proofs.Common.{cases_eq, usable_of, MayUse}
use Rattle.assignment_search.proofs.branching.first_branch.Goals as goal

pub loop-vehicle-preserved : goal.loop-vehicle-preserved
loop-vehicle-preserved c = λ v j k l a b.
    ⊎_elim
    (λ (here : v ≡ c.loop-vehicle.vehicle).
    c.in_default.ensures.none j k
    (subst (λ (w : ℕ). MayUse c.args.graph.now (usable_of c.args.allowed.now) w j) here a)
    (subst (λ (w : ℕ). MayUse c.args.graph.now (usable_of c.args.allowed.now) w k) here b))
    (λ (other : v ≡ c.loop-vehicle.vehicle → ⊥). c.loop-vehicle.invariant v j k (omega (arith, l, other)) a b)
    (cases_eq v c.loop-vehicle.vehicle)

pub returns-clause-none : goal.returns-clause-none
returns-clause-none c = λ v j k a b.
    let g = c.args.graph.now in
    let good = c.vehicle_count-vehicle-end.ensures.good in
    let low : v < g.vehicles = subst (λ (w : ℕ). w < g.vehicles) a.row.own (good.rows j a.row.within).vehicle in
    c.loop-vehicle.invariant v j k (omega (arith, low, c.vehicle_count-vehicle-end.ensures.value, c.loop-vehicle-test.false)) a b
