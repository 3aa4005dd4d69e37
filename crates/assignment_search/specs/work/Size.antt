use Rattle.std.specs.Prelude.{◌≡◌, ℕ, ◌<◌, ℤ, pos, neg_ℤ, ◌≤ℤ◌, List, length, slice_index_or}
use Rattle.plan_rules.specs.Graph.{Graph}
use Rattle.plan_rules.specs.Multipliers.{Usable}
use Rattle.plan_rules.specs.Terms.{least_cost}

-- the cost of a row
pub record IsCost (z : ℤ) : Type 0 where
  pub low : pos 0 ≤ℤ z
  pub high : z ≤ℤ pos 1000000000

-- a multiplier that a single pass makes
pub record IsModest (z : ℤ) : Type 0 where
  pub low : neg_ℤ (pos 8000000000000) ≤ℤ z
  pub high : z ≤ℤ pos 1024000000000

-- the v-th is the least cost of the usable rows of vehicle v
pub record HasLeastCosts (g : Graph) (usable : Usable) (costs : List ℤ) : Type 0 where
  pub sized : length costs ≡ g.vehicles
  pub value : (v : ℕ) → v < g.vehicles → slice_index_or costs v (pos 0) ≡ least_cost g usable v
  pub costs_of_rows : (v : ℕ) → v < g.vehicles → IsCost (slice_index_or costs v (pos 0))
