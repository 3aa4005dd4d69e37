use Rattle.std.specs.Prelude.{◌≡◌, ℕ, ◌+◌, ◌<◌, ◌≤◌, ◌⊎◌, Bool, true, false, List, length, slice_index, Contains}
use Rattle.pool_base.specs.TravelTime.{never, longest}
use Rattle.road_network.specs.declared.arc.Arc.{Arc}
use Rattle.road_network.specs.Walk.{IsWalk, walk_seconds}
use Rattle.travel_times.specs.search.Search.{waits}

-- a walk from the start to a node that takes so many seconds
abbrev pub HasWalkOf : List Arc → ℕ → ℕ → ℕ → Type 0
HasWalkOf arcs start node seconds = (walk : List Arc) × IsWalk arcs start walk node × (walk_seconds walk ≡ seconds)

-- One search in between: each number belongs to a walk, and every node that doesn't wait has its arcs relaxed, as far as
-- they lead to no more than the longest time.
pub record IsSearching (arcs : List Arc) (n start : ℕ) (seconds : List ℕ) (waiting : List Bool) : Type 0 where
  pub seconds_length : length seconds ≡ n
  pub waiting_length : length waiting ≡ n
  pub start_within : start < n
  pub start_zero : slice_index seconds start ≡ 0
  pub sound : (node : ℕ) → node < n → (slice_index seconds node ≡ never) ⊎ ((slice_index seconds node ≤ longest) × HasWalkOf arcs start node (slice_index seconds node))
  pub reached : (node : ℕ) → waits waiting node ≡ true → slice_index seconds node ≤ longest
  pub relaxed : (node : ℕ) (arc : Arc) → node < n → waits waiting node ≡ false → slice_index seconds node < never → Contains arcs arc → arc.from ≡ node → (slice_index seconds arc.to ≤ slice_index seconds node + arc.seconds) ⊎ (longest < slice_index seconds node + arc.seconds)
