use Rattle.std.specs.Prelude.{◌≡◌, ◌==◌, ℕ, ◌<◌, ◌≤◌, Bool, false, nat_lt, List, length, slice_index_or, Option}
use Rattle.std.specs.Option.{option_map_or}
use Rattle.plan_rules.specs.Sums.{count_below}
use Rattle.plan_rules.specs.Graph.{Graph, riders_at, cost_at, times_served}

-- how many of the chosen rows have this rider
abbrev pub times_chosen : Graph → List (Option ℕ) → ℕ → ℕ
times_chosen g chosen r = times_served g chosen g.vehicles r

-- how many riders are in no chosen row
abbrev pub left_out : Graph → List (Option ℕ) → ℕ
left_out g chosen = count_below g.riders (λ r. times_chosen g chosen r == 0)

-- for each of the graph's riders there is a mark, set where a row that the first n vehicles are given has her
pub record MarksServed (g : Graph) (chosen : List (Option ℕ)) (n : ℕ) (flags : List Bool) : Type 0 where
  pub sized : g.riders ≤ length flags
  pub marks : (r : ℕ) → r < g.riders → slice_index_or flags r false ≡ nat_lt 0 (times_served g chosen n r)

-- what the chosen row costs; no row costs nothing
abbrev pub choice_cost : Graph → Option ℕ → ℕ
choice_cost g choice = option_map_or (cost_at g) choice 0

-- how many riders the chosen row has; no row has none
abbrev pub choice_size : Graph → Option ℕ → ℕ
choice_size g choice = option_map_or (λ k. length (riders_at g k)) choice 0
