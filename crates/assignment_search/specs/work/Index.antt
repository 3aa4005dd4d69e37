use Rattle.std.specs.Prelude.{◌≡◌, ℕ, suc, ◌<◌, ◌&&◌, true, List, length, slice_index_or}
use Rattle.plan_rules.specs.Graph.{Graph, riders_at, has_rider}
use Rattle.plan_rules.specs.Multipliers.{Usable}
use Rattle.assignment_search.specs.Index.{IsListed}

-- each row of the graph stands in the lists of all its riders, where these start there
abbrev pub ListsAll : Graph → List ℕ → List ℕ → Type 0
ListsAll g starts rows =
    (k i : ℕ) → k < length g.rows → i < length (riders_at g k) → IsListed rows (slice_index_or starts (slice_index_or (riders_at g k) i 0) 0) (slice_index_or starts (suc (slice_index_or (riders_at g k) i 0)) 0) k

-- the row stands at this place of a list, may be chosen and has the rider
pub record IsRowListed (g : Graph) (usable : Usable) (rows : List ℕ) (r place k : ℕ) : Type 0 where
  pub within : place < length rows
  pub row : slice_index_or rows place 0 ≡ k
  pub exists : k < length g.rows
  pub usable_has : (usable k && has_rider g k r) ≡ true
