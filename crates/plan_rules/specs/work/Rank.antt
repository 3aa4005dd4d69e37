use Rattle.std.specs.Prelude.{◌≡◌, ◌≢◌, ℕ, ◌-◌, ◌<◌, Bool, false, true, IsTrue, List, length, slice_index_or, Option, Some, Contains, All}
use Rattle.std.specs.List.Sorted.{IsNonDecreasingBy}
use Rattle.plan_rules.specs.Graph.{Graph, riders_at, cost_at, row_vehicle, has_rider, choice_at, IsRowOf}
use Rattle.plan_rules.specs.Greedy.{IsTaken}
use Rattle.plan_rules.specs.lemmas.Rank.{rank_of}

-- what a row is sorted by: how many riders are missing to six, the cost, the number
abbrev pub parts_of : Graph → ℕ → ℕ × ℕ × ℕ
parts_of g k = (6 - length (riders_at g k), cost_at g k, k)

-- the k-th is what row k is sorted by
pub record AreRanks (g : Graph) (ranks : List (ℕ × ℕ × ℕ)) : Type 0 where
  pub each : length ranks ≡ length g.rows
  pub parts : (k : ℕ) → k < length g.rows → (d : ℕ × ℕ × ℕ) → slice_index_or ranks k d ≡ parts_of g k

-- the row of the i-th rank
abbrev pub row_of : List (ℕ × ℕ × ℕ) → ℕ → ℕ
row_of ranks i = (slice_index_or ranks i (0, 0, 0)).2

-- all rows, by what they are sorted by, in the order of their ranks
pub record IsRanking (g : Graph) (ranks : List (ℕ × ℕ × ℕ)) : Type 0 where
  pub within : All (λ rank. rank.2 < length g.rows) ranks
  pub all : (k : ℕ) → k < length g.rows → Contains ranks (parts_of g k)
  pub sorted : IsNonDecreasingBy (λ rank. rank_of g rank.2) ranks

-- the rows have neither a vehicle nor a rider in common
abbrev pub IsApart : Graph → ℕ → ℕ → Type 0
IsApart g j k = (row_vehicle g j ≢ row_vehicle g k) × ((r : ℕ) → IsTrue (has_rider g j r) → IsTrue (has_rider g k r) → ⊥)

-- the rows taken so far are apart, each is its vehicle's choice, and their riders are marked
pub record IsSelection (g : Graph) (chosen : List (Option ℕ)) (served : List Bool) : Type 0 where
  pub sized : length chosen ≡ g.vehicles
  pub marked : length served ≡ g.riders
  pub own : (v k : ℕ) → v < g.vehicles → choice_at chosen v ≡ Some k → IsRowOf g v k
  pub apart : (j k : ℕ) → j < length g.rows → k < length g.rows → j ≢ k → IsTaken g chosen j → IsTaken g chosen k → IsApart g j k
  pub serves : (j r : ℕ) → j < length g.rows → IsTaken g chosen j → IsTrue (has_rider g j r) → slice_index_or served r false ≡ true
  pub served_by : (r : ℕ) → slice_index_or served r false ≡ true → (j : ℕ) × (j < length g.rows) × IsTaken g chosen j × IsTrue (has_rider g j r)

-- a row that is taken is in the way of this one
pub record IsInTheWay (g : Graph) (chosen : List (Option ℕ)) (row : ℕ) : Type 0 where
  pub other : ℕ
  pub within : other < length g.rows
  pub taken : IsTaken g chosen other
  pub conflict : IsApart g other row → ⊥
