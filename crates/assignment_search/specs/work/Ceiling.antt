use Rattle.std.specs.Prelude.{◌≡◌, ℕ, List, length, slice_index_or, ◌*◌, ℤ, pos, ◌≤ℤ◌}
use Rattle.plan_rules.specs.Graph.{Graph}
use Rattle.plan_rules.specs.Multipliers.{Usable, multiplier_at}
use Rattle.plan_rules.specs.Terms.{first_fit}
use Rattle.assignment_search.specs.work.Size.{IsModest}

-- a number for each rider that her first-fit multiplier doesn't exceed
pub record AreCeilings (g : Graph) (usable : Usable) (rooms : List ℤ) : Type 0 where
  pub sized : length rooms ≡ g.riders
  pub above : (r : ℕ) → multiplier_at (first_fit g usable) r ≤ℤ slice_index_or rooms r (pos (1024 * g.penalty))
  pub modest : (r : ℕ) → IsModest (slice_index_or rooms r (pos 0))
