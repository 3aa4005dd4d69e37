use Rattle.std.specs.Prelude.{◌≡◌, ℕ, ◌<◌, ◌≤◌, true, List, length, slice_index_or}
use Rattle.plan_rules.specs.Graph.{Graph, row_vehicle, cost_at}
use Rattle.assignment_search.specs.declared.cheapest.CheapestRows.{CheapestRows}

-- the row costs at least as much as the one that is listed for its vehicle
abbrev pub IsNoCheaper : Graph → List ℕ → ℕ → Type 0
IsNoCheaper g listed k = cost_at g (slice_index_or listed (row_vehicle g k) 0) ≤ cost_at g k

-- each row does
abbrev pub AreCheapest : Graph → List ℕ → Type 0
AreCheapest g listed = (k : ℕ) → k < length g.rows → IsNoCheaper g listed k

-- rows that count as right are
abbrev pub AreCheapestOf : Graph → CheapestRows → Type 0
AreCheapestOf g cheapest = cheapest.is_right ≡ true → AreCheapest g cheapest.rows.items
