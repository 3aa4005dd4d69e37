use Rattle.std.specs.Prelude.{◌≡◌, ◌≢◌, ◌↔◌, ℕ, ◌+◌, ◌<◌, List, [], All, length, slice_index, slice_index_or, Contains}
use Rattle.road_network.specs.declared.arc.Arc.{Arc}
use Rattle.road_network.specs.Walk.{IsLeastTime}
use Rattle.travel_times.specs.declared.labels.hub.Hub.{Hub}
use Rattle.travel_times.specs.labels.Rank.{IsOfLowerRank}

-- the ranks of the first n nodes, as numbers that differ
pub record IsRanking (arcs : List Arc) (n : ℕ) (rank : List ℕ) : Type 0 where
  pub each : length rank ≡ n
  pub lower : (a b : ℕ) → a < n → b < n → IsOfLowerRank arcs a b ↔ (slice_index rank a < slice_index rank b)
  pub apart : (a b : ℕ) → a < n → b < n → slice_index rank a ≡ slice_index rank b → a ≡ b

-- a hub of a node that it reaches, by numbers that rank nodes
pub record IsRankedHub (arcs : List Arc) (rank : List ℕ) (b h seconds : ℕ) : Type 0 where
  pub time : IsLeastTime arcs h b seconds
  pub first : (w before after : ℕ) → slice_index rank w < slice_index rank h → IsLeastTime arcs h w before → IsLeastTime arcs w b after → before + after ≢ seconds

-- the list has, by rank, these hubs of a rank below a bound
pub record IsLabelBelow (rank : List ℕ) (IsHub : ℕ → ℕ → Type 0) (bound : ℕ) (label : List Hub) : Type 0 where
  pub rising : (i j : ℕ) (d : Hub) → i < j → j < length label → slice_index rank (slice_index_or label i d).node < slice_index rank (slice_index_or label j d).node
  pub sound : All (λ hub. IsHub hub.node hub.seconds × (slice_index rank hub.node < bound)) label
  pub complete : (hub : Hub) → IsHub hub.node hub.seconds → slice_index rank hub.node < bound → Contains label hub

-- the labels of the first n nodes, as far as the hubs of a rank below a bound
pub record AreLabelsBelow (arcs : List Arc) (rank : List ℕ) (n bound : ℕ) (labels : List (List Hub)) : Type 0 where
  pub each : length labels ≡ n
  pub labelled : (b : ℕ) → b < n → IsLabelBelow rank (IsRankedHub arcs rank b) bound (slice_index_or labels b [])
