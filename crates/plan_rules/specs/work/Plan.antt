use Rattle.std.specs.Prelude.{◌≤◌, ℕ, List, Option}
use Rattle.plan_rules.specs.Graph.{Graph, times_served}

-- Parts of a plan's rules, as proofs call them.

-- no rider is in two of the rows that the first n vehicles are given
abbrev pub IsServedOnce : Graph → List (Option ℕ) → ℕ → Type 0
IsServedOnce g chosen n = (r : ℕ) → times_served g chosen n r ≤ 1
