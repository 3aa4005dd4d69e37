use Rattle.std.specs.Prelude.{ℕ, ◌<◌, ◌≤◌, ◌==◌, Bool, List, All, length, filter, nat_eq}
use Rattle.std.specs.List.{IsDistinct, list_any, position_or_len}
use Rattle.road_network.specs.Walk.{Arc}
use Rattle.road_network.specs.declared.hop.Hop.{Hop}

-- a road network: the nodes' names, by index, and the arcs between indexes, by starting node
pub record Roads : Type 0 where
  pub nodes : List ℕ
  pub arcs : List Arc

-- the index of a node: the place of its name
abbrev pub index_in : List ℕ → ℕ → ℕ
index_in nodes name = position_or_len (λ node. name == node) nodes

-- a node is among these
abbrev pub has_node : List ℕ → ℕ → Bool
has_node nodes name = list_any (λ node. node == name) nodes

-- the arcs that leave a node, in their order
abbrev pub leaving : ℕ → List Arc → List Arc
leaving node arcs = filter (λ arc. arc.from == node) arcs

-- an arc as it is seen from its starting node
abbrev pub hop_of : Arc → Hop
hop_of arc = record { to = arc.to; seconds = arc.seconds }

-- an arc joins two of so many nodes, in at most 10,000 seconds
abbrev pub IsArcAmong : ℕ → Arc → Type 0
IsArcAmong count arc = (arc.from < count) × (arc.to < count) × (arc.seconds ≤ 10000)

-- what every network keeps
pub record IsNetwork (roads : Roads) : Type 0 where
  pub few_nodes : length roads.nodes ≤ 100000
  pub few_arcs : length roads.arcs ≤ 400000
  pub distinct : IsDistinct nat_eq roads.nodes
  pub arcs : All (IsArcAmong (length roads.nodes)) roads.arcs
