use Rattle.std.specs.Prelude.{◌≡◌, ◌≢◌, ◌⊎◌, ◌↔◌, ℕ, ◌<◌, IsTrue, List, length, Option, Some}
use Rattle.plan_rules.specs.Graph.{Graph, riders_at, cost_at, row_vehicle, has_rider, choice_at, IsRowOf}

-- row j is tried before row k: it is larger, or as large and cheaper, or alike in both and of a lesser number
abbrev pub IsTriedBefore : Graph → ℕ → ℕ → Type 0
IsTriedBefore g j k =
    (length (riders_at g k) < length (riders_at g j))
    ⊎ ((length (riders_at g j) ≡ length (riders_at g k)) × ((cost_at g j < cost_at g k) ⊎ ((cost_at g j ≡ cost_at g k) × (j < k))))

-- the row is chosen
abbrev pub IsTaken : Graph → List (Option ℕ) → ℕ → Type 0
IsTaken g chosen k = choice_at chosen (row_vehicle g k) ≡ Some k

-- row after row, the larger, cheaper and lesser first, is taken where it has neither a vehicle nor a rider of one taken before it
pub record IsGreedy (g : Graph) (chosen : List (Option ℕ)) : Type 0 where
  pub sized : length chosen ≡ g.vehicles
  pub own : (v k : ℕ) → v < g.vehicles → choice_at chosen v ≡ Some k → IsRowOf g v k
  pub taken : (k : ℕ) → k < length g.rows → IsTaken g chosen k
      ↔ ((j : ℕ) → j < length g.rows → IsTriedBefore g j k → IsTaken g chosen j
      → (row_vehicle g j ≢ row_vehicle g k) × ((r : ℕ) → IsTrue (has_rider g j r) → IsTrue (has_rider g k r) → ⊥))
