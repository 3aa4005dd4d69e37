use Rattle.std.specs.Prelude.{◌≡◌, ℕ, ◌<◌, ◌⊎◌, Bool, true, false, List, [], All, map, length, slice_index_or, Contains}
use Rattle.road_network.specs.declared.arc.Arc.{Arc}
use Rattle.road_network.specs.declared.hop.Hop.{Hop}
use Rattle.road_network.specs.Roads.{hop_of}

-- an arc the other way round
abbrev pub turned : Arc → Arc
turned arc = record { from = arc.to; to = arc.from; seconds = arc.seconds }

-- the arcs, or all of them the other way round
abbrev pub directed : Bool → List Arc → List Arc
directed false arcs = arcs
directed true arcs = map turned arcs

-- the arc of a hop from a node
abbrev pub arc_from : ℕ → Hop → Arc
arc_from node hop = record { from = node; to = hop.to; seconds = hop.seconds }

-- the hops of the arcs that leave a node, in some order
pub record AreHopsOf (arcs : List Arc) (node : ℕ) (hops : List Hop) : Type 0 where
  pub among : All (λ hop. Contains arcs (arc_from node hop)) hops
  pub all : (arc : Arc) → Contains arcs arc → arc.from ≡ node → Contains hops (hop_of arc)

-- the hops of each of the first n nodes
pub record AreNodeHops (arcs : List Arc) (n : ℕ) (hops : List (List Hop)) : Type 0 where
  pub each : length hops ≡ n
  pub placed : (node : ℕ) → node < n → AreHopsOf arcs node (slice_index_or hops node [])

-- the first hops of a node became hops from their ends back to the node
pub record TurnsHops (node : ℕ) (leaving : List Hop) (count : ℕ) (before after : List (List Hop)) : Type 0 where
  pub each : length after ≡ length before
  pub from : (end : ℕ) (hop : Hop) → Contains (slice_index_or after end []) hop
      → Contains (slice_index_or before end []) hop ⊎ ((hop.to ≡ node) × ((k : ℕ) × (k < count) × (k < length leaving) × (slice_index_or leaving k (record { to = end; seconds = hop.seconds }) ≡ record { to = end; seconds = hop.seconds })))
  pub keeps : (end : ℕ) (hop : Hop) → Contains (slice_index_or before end []) hop → Contains (slice_index_or after end []) hop
  pub adds : (k : ℕ) (d : Hop) → k < count → k < length leaving → Contains (slice_index_or after (slice_index_or leaving k d).to []) (record { to = node; seconds = (slice_index_or leaving k d).seconds })

-- the arcs from the first k of n nodes, as hops from where they end back to where they begin
pub record AreTurnedBefore (arcs : List Arc) (n k : ℕ) (hops : List (List Hop)) : Type 0 where
  pub each : length hops ≡ n
  pub among : (end : ℕ) (hop : Hop) → end < n → Contains (slice_index_or hops end []) hop → Contains arcs (record { from = hop.to; to = end; seconds = hop.seconds })
  pub all : (arc : Arc) → Contains arcs arc → arc.from < k → Contains (slice_index_or hops arc.to []) (record { to = arc.from; seconds = arc.seconds })
