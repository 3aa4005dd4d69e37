-- Parts of the value of a leaf.
use Rattle.std.specs.Prelude.{ℕ, ◌*◌, List, if◌then◌else◌, ℤ, pos}
use Rattle.std.specs.Int.{int_min}
use Rattle.plan_rules.specs.Graph.{Graph, cost_at, must_be_served}
use Rattle.plan_rules.specs.Multipliers.{Usable, first_fit_below, least_of, multiplier_at, reduced_cost}

-- the least reduced cost of the vehicle's usable rows, 0 where it has none
abbrev pub vehicle_term : Graph → Usable → List ℤ → ℕ → ℤ
vehicle_term g usable ms v = least_of g usable v (reduced_cost g ms)

-- the rider's multiplier, and at most the penalty where she may be left out
abbrev pub rider_term : Graph → List ℤ → ℕ → ℤ
rider_term g ms r = if must_be_served g r then multiplier_at ms r else int_min (multiplier_at ms r) (pos (1024 * g.penalty))

-- the least cost of the vehicle's usable rows, 0 where it has none
abbrev pub least_cost : Graph → Usable → ℕ → ℤ
least_cost g usable v = least_of g usable v (λ k. pos (cost_at g k))

-- the first-fit multipliers
abbrev pub first_fit : Graph → Usable → List ℤ
first_fit g usable = first_fit_below g usable g.riders
