use Rattle.std.specs.Prelude.{◌≡◌, ℕ, ◌+◌, ◌<◌, ◌≤◌, Bool, List, length, slice_index}
use Rattle.std.specs.List.Sorted.{IsStrictlyIncreasing}
use Rattle.plan_rules.specs.Graph.{Graph, IsStartOf}
use Rattle.plan_rules.specs.GoodGraph.{IsGoodGraph}
use Rattle.plan_rules.specs.lemmas.Plan.{MarksServed}

-- the riders rise and are all below this number
pub record AreRisingBelow (riders : ℕ) (members : List ℕ) : Type 0 where
  pub below : (i : ℕ) → i < length members → slice_index members i < riders
  pub rising : IsStrictlyIncreasing members

-- the rows of vehicle v begin at the v-th of these numbers and end before the next one
pub record IsRowIndex (g : Graph) (index : List ℕ) : Type 0 where
  pub sized : length index ≡ g.vehicles + 1
  pub starts : (v : ℕ) → v ≤ g.vehicles → IsStartOf g v (slice_index index v)

-- what a trip graph keeps beside its parts; the flags mark who must be served
pub record IsKept (g : Graph) (index : List ℕ) (flags : List Bool) : Type 0 where
  pub good : IsGoodGraph g
  pub starts : IsRowIndex g index
  pub must : MarksServed g g.held g.vehicles flags
