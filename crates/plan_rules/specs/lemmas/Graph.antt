use Rattle.std.specs.Prelude.{◌≡◌, ℕ, ◌<◌, Bool, false, List, length, Option, Some}
use Rattle.std.specs.Option.{option_map_or}
use Rattle.plan_rules.specs.Graph.{Graph, IsRowOf, choice_at, has_rider}

-- each choice of these is a row of the graph
abbrev pub ChoosesRows : Graph → List (Option ℕ) → Type 0
ChoosesRows g chosen = (v k : ℕ) → choice_at chosen v ≡ Some k → k < length g.rows

-- the vehicle has no row
abbrev pub HasNoRow : Graph → ℕ → Type 0
HasNoRow g v = (k : ℕ) → IsRowOf g v k → ⊥

-- whether this rider is in the trip of a chosen row; in none there is nobody
abbrev pub is_in : Graph → Option ℕ → ℕ → Bool
is_in g choice r = option_map_or (λ k. has_rider g k r) choice false
