use Rattle.std.proofs.Common.{◌≡◌, List, Option, ℤ, length, subst, sym, ◌∙◌, arith}
use Rattle.bound_checker.proofs.Common.{ints, usable_of, leaf_value, vehicle_term, int_sum_below, AreLeast}
use Rattle.bound_checker.proofs.LeafLemmas.{vehicles_sum}
use Rattle.bound_checker.proofs.leaf.leaf_value.Goals as goal

pub returns-clause-value : goal.returns-clause-value
unfolding leaf_value
returns-clause-value c =
    let g = c.args.graph.now in
    let u = usable_of c.args.allowed.now in
    let ms = c.args.multipliers.now in
    let are : AreLeast g u ms (length g.rows) c.as_slice.result.now = subst (λ (xs : List (Option ℤ)). AreLeast g u ms (length g.rows) xs)
    (sym c.as_slice.ensures.value) c.in_ok-least.ensures.least in
    let vehicles : c.sum_of_vehicles.result ≡ int_sum_below g.vehicles (vehicle_term g u ms) = c.sum_of_vehicles.ensures.value ∙
    vehicles_sum g u ms c.as_slice.result.now are in
    omega (arith, ints, vehicles, c.sum_of_riders.ensures.value)
