use Rattle.std.specs.Prelude.{◌≡◌, ℕ, ◌+◌, ◌<◌, ◌≤◌, ◌⊎◌, Bool, true, false, List, [], length, slice_index, slice_index_or, Contains}
use Rattle.pool_base.specs.TravelTime.{never, longest}
use Rattle.road_network.specs.declared.arc.Arc.{Arc}
use Rattle.travel_times.specs.search.Search.{waits}
use Rattle.travel_times.specs.lemmas.search.Search.{HasWalkOf}
use Rattle.travel_times.specs.declared.labels.hub.Hub.{Hub}

-- a hub of the label, with the seconds to it that `via` has, tells of a way of at most so many seconds
abbrev pub IsTold : List Hub → List ℕ → ℕ → Type 0
IsTold label via most = (k : ℕ) × (k < length label) × (slice_index via (slice_index_or label k (record { node = 0; seconds = 0 })).node + (slice_index_or label k (record { node = 0; seconds = 0 })).seconds ≤ most)

-- the labels so far tell of a way to a node of at most so many seconds
abbrev pub IsToldAt : List (List Hub) → List ℕ → ℕ → ℕ → Type 0
IsToldAt labels via node most = IsTold (slice_index_or labels node []) via most

-- A pruned search in between: each number belongs to a walk, every node with a number waits or was taken, and one that
-- doesn't wait was told of already, or has its arcs relaxed.
pub record IsPruning (arcs : List Arc) (n start : ℕ) (labels : List (List Hub)) (via seconds : List ℕ) (waiting : List Bool) (taken : List ℕ) : Type 0 where
  pub seconds_length : length seconds ≡ n
  pub waiting_length : length waiting ≡ n
  pub start_within : start < n
  pub start_zero : slice_index seconds start ≡ 0
  pub sound : (node : ℕ) → node < n → (slice_index seconds node ≡ never) ⊎ ((slice_index seconds node ≤ longest) × HasWalkOf arcs start node (slice_index seconds node))
  pub reached : (node : ℕ) → waits waiting node ≡ true → slice_index seconds node ≤ longest
  pub noted : (node : ℕ) → node < n → slice_index seconds node < never → (waits waiting node ≡ true) ⊎ Contains taken node
  pub relaxed : (node : ℕ) → node < n → waits waiting node ≡ false → slice_index seconds node < never
      → IsToldAt labels via node (slice_index seconds node)
      ⊎ ((arc : Arc) → Contains arcs arc → arc.from ≡ node → (slice_index seconds arc.to ≤ slice_index seconds node + arc.seconds) ⊎ (longest < slice_index seconds node + arc.seconds))

-- what a pruned search finds
pub record IsPruned (arcs : List Arc) (n start : ℕ) (labels : List (List Hub)) (via seconds : List ℕ) : Type 0 where
  pub each : length seconds ≡ n
  pub start_zero : slice_index seconds start ≡ 0
  pub sound : (node : ℕ) → node < n → (slice_index seconds node ≡ never) ⊎ ((slice_index seconds node ≤ longest) × HasWalkOf arcs start node (slice_index seconds node))
  pub relaxed : (node : ℕ) → node < n → slice_index seconds node < never
      → IsToldAt labels via node (slice_index seconds node)
      ⊎ ((arc : Arc) → Contains arcs arc → arc.from ≡ node → (slice_index seconds arc.to ≤ slice_index seconds node + arc.seconds) ⊎ (longest < slice_index seconds node + arc.seconds))
