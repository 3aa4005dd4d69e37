use Rattle.std.specs.Prelude.{◌≡◌, ◌==◌, ℕ, ◌+◌, ◌*◌, ◌<◌, ◌≤◌, IsTrue, List, length, Option, MatchOption, ℤ, pos, ◌≤ℤ◌}
use Rattle.std.specs.Option.{option_map_or}
use Rattle.plan_rules.specs.Sums.{sum_below, count_below}
use Rattle.plan_rules.specs.Graph.{Graph, IsRowOf, choice_at, cost_at, times_served, must_be_served}

-- each vehicle that has rows is given one of its own, and the others none
pub record IsPlan (g : Graph) (chosen : List (Option ℕ)) : Type 0 where
  pub sized : length chosen ≡ g.vehicles
  pub own : (v : ℕ) → v < g.vehicles → MatchOption (choice_at chosen v) ((k : ℕ) → IsRowOf g v k → ⊥) (IsRowOf g v)

-- a plan is lawful where no rider is in two chosen rows and each rider who must be served is in one
pub record IsLawful (g : Graph) (chosen : List (Option ℕ)) : Type 0 where
  pub plan : IsPlan g chosen
  pub once : (r : ℕ) → times_served g chosen g.vehicles r ≤ 1
  pub kept : (r : ℕ) → IsTrue (must_be_served g r) → times_served g chosen g.vehicles r ≡ 1

-- a plan costs what its rows cost, and the penalty for each rider in none
unfoldable pub cost_of : Graph → List (Option ℕ) → ℕ
cost_of g chosen =
    sum_below g.vehicles (λ v. option_map_or (cost_at g) (choice_at chosen v) 0)
    + g.penalty * count_below g.riders (λ r. times_served g chosen g.vehicles r == 0)

-- no lawful plan costs less
abbrev pub IsBound : Graph → ℤ → Type 0
IsBound g bound = (chosen : List (Option ℕ)) → IsLawful g chosen → bound ≤ℤ pos (cost_of g chosen)
