use Rattle.std.specs.Prelude.{◌≡◌, ℕ, ◌≤◌, List, slice_set, Option, Some}
use Rattle.plan_rules.specs.Graph.{Graph}
use Rattle.plan_rules.specs.Plan.{IsLawful, cost_of}

-- no lawful plan that gives another row to one vehicle costs less
abbrev pub HasNoBetterChange : Graph → List (Option ℕ) → Type 0
HasNoBetterChange g chosen =
    (v : ℕ) (other : Option ℕ) → IsLawful g (slice_set chosen v other) → cost_of g chosen ≤ cost_of g (slice_set chosen v other)

-- a plan is another one with another row for one vehicle
pub record IsChangeOf (chosen other : List (Option ℕ)) : Type 0 where
  pub vehicle : ℕ
  pub row : ℕ
  pub is : other ≡ slice_set chosen vehicle (Some row)
