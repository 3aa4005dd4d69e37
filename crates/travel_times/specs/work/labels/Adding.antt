use Rattle.std.specs.Prelude.{◌≡◌, ℕ, ◌+◌, ◌<◌, ◌≤◌, Bool, false, List, All, length, slice_index, Contains}
use Rattle.pool_base.specs.TravelTime.{never}
use Rattle.road_network.specs.declared.arc.Arc.{Arc}
use Rattle.road_network.specs.declared.hop.Hop.{Hop}
use Rattle.road_network.specs.Roads.{IsArcAmong}
use Rattle.travel_times.specs.search.Search.{waits}
use Rattle.travel_times.specs.declared.labels.hub.Hub.{Hub}
use Rattle.travel_times.specs.work.labels.Hops.{AreNodeHops, turned}
use Rattle.travel_times.specs.work.labels.Ranked.{AreLabelsBelow}

-- the work space of a search that hasn't begun
pub record IsClean (n : ℕ) (seconds : List ℕ) (waiting : List Bool) (taken via : List ℕ) : Type 0 where
  pub seconds_each : length seconds ≡ n
  pub seconds_none : All (λ s. s ≡ never) seconds
  pub waiting_each : length waiting ≡ n
  pub waiting_none : (node : ℕ) → waits waiting node ≡ false
  pub taken_within : All (λ node. node < n) taken
  pub via_each : length via ≡ n
  pub via_none : All (λ s. s ≡ never) via

-- the hops are those of arcs among n nodes, and the others are the same arcs the other way round
pub record AreHopsBothWays (n : ℕ) (arcs others : List Arc) (hops : List (List Hop)) : Type 0 where
  pub among : All (IsArcAmong n) arcs
  pub others_among : All (IsArcAmong n) others
  pub there : (arc : Arc) → Contains arcs arc → Contains others (turned arc)
  pub back : (arc : Arc) → Contains others arc → Contains arcs (turned arc)
  pub placed : AreNodeHops arcs n hops

-- labels of n nodes that have the hubs of lower rank than the start come to have the start, too
abbrev pub AddsHub : ℕ → List (List Hop) → List (List Hub) → ℕ → List (List Hub) → List (List Hub) → Type 0
AddsHub n hops own start before after = (arcs others : List Arc) (rank : List ℕ) (bound : ℕ) → AreHopsBothWays n arcs others hops
    → ((a b : ℕ) → a < n → b < n → slice_index rank a ≡ slice_index rank b → a ≡ b)
    → slice_index rank start ≤ bound → AreLabelsBelow others rank n bound own
    → AreLabelsBelow arcs rank n (slice_index rank start) before → AreLabelsBelow arcs rank n (slice_index rank start + 1) after
