use Rattle.std.specs.Prelude.{◌≡◌, ℕ, ◌<◌, List, length}
use Rattle.road_network.specs.Roads.{Roads}
use Rattle.travel_times.specs.declared.labels.hub.Hub.{Hub}
use Rattle.travel_times.specs.declared.labels.fault.LabelFault.{LabelFault}
use Rattle.travel_times.specs.declared.labels.fault.LabelFault.TheVariants.{Size, Forward, Backward, OutOfMemory}
use Rattle.travel_times.specs.labels.Label.{IsForwardHub, IsBackwardHub, IsLabel}
use Rattle.travel_times.specs.labels.Labels.{label_at}

-- a list has one label for each node
abbrev pub HasEach : Roads → List (List Hub) → Type 0
HasEach roads labels = length labels ≡ length roads.nodes

-- the label of the hubs that a node reaches is the one that the definition names
abbrev pub IsForwardAt : Roads → List (List Hub) → ℕ → Type 0
IsForwardAt roads labels a = IsLabel roads.arcs (IsForwardHub roads.arcs a) (label_at labels a)

-- the label of the hubs that reach a node is the one that the definition names
abbrev pub IsBackwardAt : Roads → List (List Hub) → ℕ → Type 0
IsBackwardAt roads labels b = IsLabel roads.arcs (IsBackwardHub roads.arcs b) (label_at labels b)

-- the first of so many nodes of which it doesn't hold
pub record IsFirstWrong (n : ℕ) (IsRight : ℕ → Type 0) (node : ℕ) : Type 0 where
  pub within : node < n
  pub wrong : IsRight node → ⊥
  pub before : (earlier : ℕ) → earlier < node → IsRight earlier

-- the first thing that is wrong with lists of labels; want of memory says nothing of them
abbrev pub IsLabelFault : Roads → List (List Hub) → List (List Hub) → LabelFault → Type 0
IsLabelFault roads forward backward Size = HasEach roads forward × HasEach roads backward → ⊥
IsLabelFault roads forward backward (Forward node) =
    HasEach roads forward × HasEach roads backward × IsFirstWrong (length roads.nodes) (IsForwardAt roads forward) node
IsLabelFault roads forward backward (Backward node) =
    HasEach roads forward × HasEach roads backward × ((a : ℕ) → a < length roads.nodes → IsForwardAt roads forward a)
    × IsFirstWrong (length roads.nodes) (IsBackwardAt roads backward) node
IsLabelFault roads forward backward OutOfMemory = Unit {0}
