-- By what a dead end is seen.
use Rattle.std.specs.Prelude.{◌≡◌, ◌==◌, ℕ, ◌<◌, Bool, false, IsTrue, List, length, slice_index_or, Option, Some, MatchOption, MatchBool}
use Rattle.std.specs.List.{list_any}
use Rattle.plan_rules.specs.Graph.{Graph, has_rider, choice_at}
use Rattle.plan_rules.specs.Multipliers.{Usable}
use Rattle.plan_rules.specs.Tree.{IsSoleRow}
use Rattle.plan_rules.specs.lemmas.DeadEnd.{StandsInSome, StandsInNone}

-- for each of the first n vehicles its only usable row, or none
pub record AreSoleRows (g : Graph) (usable : Usable) (n : ℕ) (sole : List (Option ℕ)) : Type 0 where
  pub sized : length sole ≡ n
  pub each : (v : ℕ) → v < n → MatchOption (choice_at sole v) ((k : ℕ) → IsSoleRow g usable v k → ⊥) (IsSoleRow g usable v)

-- a rider stands in the rows of both vehicles
pub record ShareARider (g : Graph) (sole : List (Option ℕ)) (v w : ℕ) : Type 0 where
  pub one : ℕ
  pub other : ℕ
  pub rider : ℕ
  pub first : choice_at sole v ≡ Some one
  pub second : choice_at sole w ≡ Some other
  pub in_first : IsTrue (has_rider g one rider)
  pub in_second : IsTrue (has_rider g other rider)

-- a number stands in both lists
abbrev pub IsInBoth : List ℕ → List ℕ → Type 0
IsInBoth xs ys = (r : ℕ) × IsTrue (list_any (λ x. x == r) xs) × IsTrue (list_any (λ y. y == r) ys)

-- no number stands in both lists
abbrev pub IsApart : List ℕ → List ℕ → Type 0
IsApart xs ys = (r : ℕ) → IsTrue (list_any (λ x. x == r) xs) → IsTrue (list_any (λ y. y == r) ys) → ⊥

-- the marked riders are those who stand in a usable row among the first n
pub record MarksStanding (g : Graph) (usable : Usable) (n : ℕ) (marks : List Bool) : Type 0 where
  pub sized : length marks ≡ g.riders
  pub each : (r : ℕ) → r < g.riders → MatchBool (slice_index_or marks r false) (StandsInSome g usable n r) (StandsInNone g usable n r)
