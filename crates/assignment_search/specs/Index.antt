use Rattle.std.specs.Prelude.{◌≡◌, ℕ, suc, ◌<◌, ◌≤◌, cond, List, length, slice_index_or}
use Rattle.plan_rules.specs.Graph.{Graph, riders_at}
use Rattle.assignment_search.specs.declared.rider_index.RiderIndex.{RiderIndex}

-- where the list of a rider's rows starts; where the index isn't whole, one list has all rows
abbrev pub list_start : RiderIndex → ℕ → ℕ
list_start index r = cond index.is_whole (slice_index_or index.starts.items r 0) 0

-- where the list of a rider's rows ends
abbrev pub list_end : RiderIndex → ℕ → ℕ
list_end index r = cond index.is_whole (slice_index_or index.starts.items (suc r) 0) (length index.rows.items)

-- the row stands between these places of a list
pub record IsListed (rows : List ℕ) (from to k : ℕ) : Type 0 where
  pub place : ℕ
  pub from_on : from ≤ place
  pub before : place < to
  pub within : place < length rows
  pub row : slice_index_or rows place 0 ≡ k

-- each row of the graph stands in the lists of all its riders
abbrev pub IsIndexOf : Graph → RiderIndex → Type 0
IsIndexOf g index =
    (k i : ℕ) → k < length g.rows → i < length (riders_at g k) → IsListed index.rows.items (list_start index (slice_index_or (riders_at g k) i 0)) (list_end index (slice_index_or (riders_at g k) i 0)) k
