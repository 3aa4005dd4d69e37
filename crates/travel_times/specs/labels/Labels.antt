use Rattle.std.specs.Prelude.{◌≡◌, ℕ, ◌<◌, List, [], length, slice_index_or}
use Rattle.road_network.specs.Roads.{Roads, IsNetwork}
use Rattle.travel_times.specs.declared.labels.hub.Hub.{Hub}
use Rattle.travel_times.specs.labels.Label.{IsForwardHub, IsBackwardHub, IsLabel}

-- the labels of nodes, by index: hubs that a node reaches, and hubs that reach it
pub record NodeLabels : Type 0 where
  pub forward : List (List Hub)
  pub backward : List (List Hub)

-- the label of a node
abbrev pub label_at : List (List Hub) → ℕ → List Hub
label_at labels node = slice_index_or labels node []

-- these are the labels of a road network's nodes
pub record AreLabelsOf (roads : Roads) (labels : NodeLabels) : Type 0 where
  pub network : IsNetwork roads
  pub forward_each : length labels.forward ≡ length roads.nodes
  pub backward_each : length labels.backward ≡ length roads.nodes
  pub forward : (a : ℕ) → a < length roads.nodes → IsLabel roads.arcs (IsForwardHub roads.arcs a) (label_at labels.forward a)
  pub backward : (b : ℕ) → b < length roads.nodes → IsLabel roads.arcs (IsBackwardHub roads.arcs b) (label_at labels.backward b)
