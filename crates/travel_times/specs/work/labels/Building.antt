use Rattle.std.specs.Prelude.{◌≡◌, ℕ, ◌<◌, List, All, length, map, slice_index}
use Rattle.road_network.specs.declared.arc.Arc.{Arc}
use Rattle.road_network.specs.declared.hop.Hop.{Hop}
use Rattle.road_network.specs.Roads.{IsArcAmong}
use Rattle.travel_times.specs.declared.labels.hub.Hub.{Hub}
use Rattle.travel_times.specs.work.labels.Hops.{AreNodeHops, turned}
use Rattle.travel_times.specs.work.labels.Ranked.{AreLabelsBelow, IsRanking}

-- the ranks of n nodes, which stand in order by rank
pub record AreRanksOf (arcs : List Arc) (n : ℕ) (order rank : List ℕ) : Type 0 where
  pub ranking : IsRanking arcs n rank
  pub placed : (r : ℕ) → r < length order → slice_index rank (slice_index order r) ≡ r

-- what labels are made from: the hops of the arcs in both directions, and the nodes by rank
pub record AreMadeFrom (arcs : List Arc) (rank order : List ℕ) (ahead back : List (List Hop)) : Type 0 where
  pub among : All (IsArcAmong (length ahead)) arcs
  pub there : AreNodeHops arcs (length ahead) ahead
  pub turned_round : AreNodeHops (map turned arcs) (length ahead) back
  pub ranks : AreRanksOf arcs (length ahead) order rank

-- the labels of n nodes in both directions, as far as the hubs of a rank below a bound
pub record AreLabelled (arcs : List Arc) (rank : List ℕ) (n bound : ℕ) (forward backward : List (List Hub)) : Type 0 where
  pub reached : AreLabelsBelow (map turned arcs) rank n bound forward
  pub reaching : AreLabelsBelow arcs rank n bound backward
