use Rattle.std.specs.Prelude.{◌≡◌, ◌≢◌, ℕ, ◌<◌, ◌≤◌, IsTrue, List, length, slice_set, Option, Some}
use Rattle.plan_rules.specs.Graph.{Graph, has_rider, choice_at}
use Rattle.plan_rules.specs.Plan.{IsLawful, cost_of}

-- to give the vehicle this row betters nothing
abbrev pub BettersNothing : Graph → List (Option ℕ) → ℕ → ℕ → Type 0
BettersNothing g chosen v k = IsLawful g (slice_set chosen v (Some k)) → cost_of g chosen ≤ cost_of g (slice_set chosen v (Some k))

-- another vehicle's chosen row has a rider of this row
pub record IsShared (g : Graph) (chosen : List (Option ℕ)) (v k : ℕ) : Type 0 where
  pub other : ℕ
  pub other_row : ℕ
  pub rider : ℕ
  pub within : other < length chosen
  pub differs : other ≢ v
  pub chooses : choice_at chosen other ≡ Some other_row
  pub in_other : IsTrue (has_rider g other_row rider)
  pub in_row : IsTrue (has_rider g k rider)
