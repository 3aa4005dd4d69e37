-- What a leaf's value is made of.
use Rattle.std.specs.Prelude.{◌≡◌, ℕ, ◌<◌, ℤ, List, length, Option, None, IfSome, slice_index_or}
use Rattle.plan_rules.specs.Graph.{Graph}
use Rattle.plan_rules.specs.Multipliers.{Usable, is_usable_by, reduced_cost}
use Rattle.plan_rules.specs.Size.{IsSmall}
use Rattle.plan_rules.specs.Sums.{least_below}

-- for each vehicle the least reduced cost of its usable rows among the first n, where it has one
pub record AreLeast (g : Graph) (usable : Usable) (ms : List ℤ) (n : ℕ) (least : List (Option ℤ)) : Type 0 where
  pub sized : length least ≡ g.vehicles
  pub each : (v : ℕ) → v < g.vehicles → slice_index_or least v None ≡ least_below n (is_usable_by g usable v) (reduced_cost g ms)
  pub small : (v : ℕ) → IfSome (slice_index_or least v None) IsSmall
