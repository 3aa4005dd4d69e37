use Rattle.std.specs.Prelude.{◌≢◌, ◌↔◌, ℕ, ◌+◌, ◌<◌, List, length, slice_index_or, Contains}
use Rattle.road_network.specs.declared.arc.Arc.{Arc}
use Rattle.road_network.specs.Walk.{IsLeastTime}
use Rattle.travel_times.specs.declared.labels.hub.Hub.{Hub}
use Rattle.travel_times.specs.labels.Rank.{IsOfLowerRank}

-- `a` reaches `h` in so many seconds at least, and on no shortest walk from `a` to `h` lies a node of lower rank than `h`
pub record IsForwardHub (arcs : List Arc) (a h seconds : ℕ) : Type 0 where
  pub time : IsLeastTime arcs a h seconds
  pub first : (w before after : ℕ) → IsOfLowerRank arcs w h → IsLeastTime arcs a w before → IsLeastTime arcs w h after → before + after ≢ seconds

-- `h` reaches `b` in so many seconds at least, and on no shortest walk from `h` to `b` lies a node of lower rank than `h`
pub record IsBackwardHub (arcs : List Arc) (b h seconds : ℕ) : Type 0 where
  pub time : IsLeastTime arcs h b seconds
  pub first : (w before after : ℕ) → IsOfLowerRank arcs w h → IsLeastTime arcs h w before → IsLeastTime arcs w b after → before + after ≢ seconds

-- the list has these hubs with their seconds, each once, by rank
pub record IsLabel (arcs : List Arc) (IsHub : ℕ → ℕ → Type 0) (label : List Hub) : Type 0 where
  pub by_rank : (i j : ℕ) (d : Hub) → i < j → j < length label → IsOfLowerRank arcs (slice_index_or label i d).node (slice_index_or label j d).node
  pub hubs : (hub : Hub) → Contains label hub ↔ IsHub hub.node hub.seconds
