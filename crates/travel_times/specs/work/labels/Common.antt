use Rattle.std.specs.Prelude.{◌≡◌, ℕ, ◌+◌, ◌<◌, ◌≤◌, ◌⊎◌, List, All, length, slice_index, slice_index_or}
use Rattle.pool_base.specs.TravelTime.{never, longest}
use Rattle.travel_times.specs.declared.labels.hub.Hub.{Hub}

-- hubs by rising rank, of the first so many nodes, within the longest time
pub record IsRising (rank : List ℕ) (label : List Hub) : Type 0 where
  pub within : All (λ hub. (hub.node < length rank) × (hub.seconds ≤ longest)) label
  pub rising : (i j : ℕ) (d : Hub) → i < j → j < length label → slice_index rank (slice_index_or label i d).node < slice_index rank (slice_index_or label j d).node

-- what two nodes' labels have in common gives these seconds, and no less
pub record IsLeastInCommon (forward backward : List Hub) (seconds : ℕ) : Type 0 where
  pub given : (seconds ≡ never) ⊎ ((i : ℕ) × (j : ℕ) × (i < length forward) × (j < length backward)
      × ((slice_index_or forward i (record { node = 0; seconds = 0 })).node ≡ (slice_index_or backward j (record { node = 0; seconds = 0 })).node)
      × ((slice_index_or forward i (record { node = 0; seconds = 0 })).seconds + (slice_index_or backward j (record { node = 0; seconds = 0 })).seconds ≡ seconds))
  pub least : (i j : ℕ) (d : Hub) → i < length forward → j < length backward → (slice_index_or forward i d).node ≡ (slice_index_or backward j d).node
      → seconds ≤ (slice_index_or forward i d).seconds + (slice_index_or backward j d).seconds

-- two nodes' ranks differ, and each label rises by rank
pub record RiseByRank (rank : List ℕ) (forward backward : List (List Hub)) : Type 0 where
  pub backward_each : length backward ≡ length forward
  pub apart : (a b : ℕ) → a < length rank → b < length rank → slice_index rank a ≡ slice_index rank b → a ≡ b
  pub forward_rising : All (IsRising rank) forward
  pub backward_rising : All (IsRising rank) backward
