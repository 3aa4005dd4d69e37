use Rattle.std.specs.Prelude.{◌≡◌, ◌≢◌, ℕ, ◌<◌, ◌≤◌, ◌⊎◌, List, [], ◌∷◌, ◌++◌, length, slice_index, slice_index_or, Contains}
use Rattle.pool_base.specs.TravelTime.{never}
use Rattle.travel_times.specs.declared.labels.hub.Hub.{Hub}
use Rattle.travel_times.specs.work.labels.Pruned.{IsTold}

-- `via` has the seconds of each hub of the label, and `never` at the other nodes
pub record IsSpread (n : ℕ) (label : List Hub) (via : List ℕ) : Type 0 where
  pub each : length via ≡ n
  pub sound : (node : ℕ) → node < n → (slice_index via node ≡ never) ⊎ Contains label (record { node = node; seconds = slice_index via node })
  pub complete : (hub : Hub) → Contains label hub → slice_index via hub.node ≡ hub.seconds

-- a node that was found in so many seconds has the start as one more hub, unless its label tells of a way already
abbrev pub GainsHub : ℕ → List ℕ → ℕ → List Hub → List Hub → Type 0
GainsHub start via seconds before after =
    (((seconds ≡ never) ⊎ IsTold before via seconds) × (after ≡ before))
    ⊎ ((seconds < never) × (IsTold before via seconds → ⊥) × (after ≡ before ++ record { node = start; seconds = seconds } ∷ []))

-- the first hubs of the label are written at their nodes: the last at each, and at the other nodes `never`
pub record HasSpread (label : List Hub) (count : ℕ) (via : List ℕ) : Type 0 where
  pub sound : (node : ℕ) → node < length via → (slice_index via node ≡ never) ⊎ ((k : ℕ) × (k < count) × (k < length label) × (slice_index_or label k (record { node = 0; seconds = 0 }) ≡ record { node = node; seconds = slice_index via node }))
  pub complete : (k : ℕ) (d : Hub) → k < count → k < length label → ((j : ℕ) (e : Hub) → k < j → j < count → (slice_index_or label j e).node ≢ (slice_index_or label k d).node) → slice_index via (slice_index_or label k d).node ≡ (slice_index_or label k d).seconds

-- a node has `never`, or is one of the label's hubs from a place on
abbrev pub IsAmongHubs : List Hub → ℕ → List ℕ → ℕ → Type 0
IsAmongHubs label from via node = (slice_index via node ≡ never) ⊎ ((k : ℕ) × (from ≤ k) × (k < length label) × ((slice_index_or label k (record { node = 0; seconds = 0 })).node ≡ node))

-- the first nodes that were taken have the start as a hub as far as they gain it, and are forgotten
pub record HandsOver (start : ℕ) (via taken : List ℕ) (count : ℕ) (before : List ℕ) (labels : List (List Hub)) (after : List ℕ) (labels' : List (List Hub)) : Type 0 where
  pub seconds_length : length after ≡ length before
  pub labels_length : length labels' ≡ length labels
  pub each : (node : ℕ) → node < length before
      → ((slice_index after node ≡ never) × GainsHub start via (slice_index before node) (slice_index_or labels node []) (slice_index_or labels' node []))
      ⊎ ((slice_index after node ≡ slice_index before node) × (slice_index_or labels' node [] ≡ slice_index_or labels node []) × ((k : ℕ) → k < count → k < length taken → slice_index taken k ≢ node))
