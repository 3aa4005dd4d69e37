-- What is checked of a draft, so that it is a hierarchy.
use Rattle.std.specs.Prelude.{◌≡◌, ◌⊎◌, ℕ, ◌+◌, ◌<◌, ◌≤◌, List, ◌++◌, All, length, map, slice_index_or, Contains}
use Rattle.road_network.specs.declared.arc.Arc.{Arc}
use Rattle.road_network.specs.declared.hop.Hop.{Hop}
use Rattle.road_network.specs.Roads.{Roads, hop_of, leaving}
use Rattle.road_hierarchy.specs.Hierarchy.{HasHighWalkWithin, IsHierarchy}
use Rattle.road_hierarchy.specs.work.build.Turns.{renamed, turn_of}
use Rattle.road_hierarchy.specs.work.sweeps.Sweep.{IsMatchedIn, IsWithin}

-- an arc between two of the first n nodes that leads up, and one that leads down
abbrev pub IsUp : ℕ → Arc → Type 0
IsUp n arc = IsWithin n arc × (arc.from < arc.to)

abbrev pub IsDown : ℕ → Arc → Type 0
IsDown n arc = IsWithin n arc × (arc.to < arc.from)

-- arcs up, by the order of their starts
pub record AreUps (n : ℕ) (up : List Arc) : Type 0 where
  pub each : All (IsUp n) up
  pub sorted : (i j : ℕ) (d : Arc) → i ≤ j → j < length up → (slice_index_or up i d).from ≤ (slice_index_or up j d).from

-- arcs down, from the last of their ends
pub record AreDowns (n : ℕ) (down : List Arc) : Type 0 where
  pub each : All (IsDown n) down
  pub sorted : (i j : ℕ) (d : Arc) → i ≤ j → j < length down → (slice_index_or down j d).to ≤ (slice_index_or down i d).to

-- the arcs of a network between the turns of its nodes
abbrev pub given_arcs : Roads → List ℕ → List Arc
given_arcs roads turns = map (renamed (turn_of turns)) roads.arcs

-- a hop from a node to one with another turn has an arc that is no longer
abbrev pub IsKept : List Arc → List ℕ → ℕ → Hop → Type 0
IsKept arcs turns start hop = (start ≡ turn_of turns hop.to) ⊎ IsMatchedIn arcs (record { from = start; to = turn_of turns hop.to; seconds = hop.seconds })

-- each hop of the network is kept
abbrev pub AreKept : Roads → List ℕ → List Arc → Type 0
AreKept roads turns arcs = (node : ℕ) → node < length roads.nodes → All (IsKept arcs turns (turn_of turns node)) (map hop_of (leaving node roads.arcs))

-- an arc is two others by way of an earlier node
pub record IsByWay (up down : List Arc) (arc first second : Arc) : Type 0 where
  pub falls : Contains down first
  pub rises : Contains up second
  pub starts : first.from ≡ arc.from
  pub meet : first.to ≡ second.from
  pub ends : second.to ≡ arc.to
  pub before : first.to < arc.from
  pub behind : first.to < arc.to
  pub takes : first.seconds + second.seconds ≤ arc.seconds

-- a given arc is no longer than this one, or it is two others by way of an earlier node
abbrev pub IsBacked : List Arc → List Arc → List Arc → Arc → Type 0
IsBacked given up down arc = IsMatchedIn given arc ⊎ ((first second : Arc) × IsByWay up down arc first second)

-- there is a way past the node where an arc ends to where another leads
abbrev pub IsReached : List Arc → Arc → Arc → Type 0
IsReached arcs first second = HasHighWalkWithin (λ node. node) arcs (first.to + 1) first.from second.to (first.seconds + second.seconds)

-- the same for each of these arcs up from there
abbrev pub IsPassed : List Arc → List Arc → Arc → Type 0
IsPassed arcs up first = (second : Arc) → Contains up second → first.to ≡ second.from → IsReached arcs first second

-- the arcs that start at a node stand at some of the places
pub record AreFromPlaces (arcs : List Arc) (node start end : ℕ) : Type 0 where
  pub rising : start ≤ end
  pub within : end ≤ length arcs
  pub all : (k : ℕ) (d : Arc) → k < length arcs → (slice_index_or arcs k d).from ≡ node → (start ≤ k) × (k < end)

-- arcs up and down between the turns of a network's nodes, by which sweeps give its travel times
pub record IsReady (roads : Roads) (turns : List ℕ) (up down : List Arc) : Type 0 where
  pub count : length turns ≡ length roads.nodes
  pub below : (node : ℕ) → node < length turns → turn_of turns node < length turns
  pub once : (x y : ℕ) → turn_of turns x ≡ turn_of turns y → x ≡ y
  pub ups : AreUps (length turns) up
  pub downs : AreDowns (length turns) down
  pub hierarchy : IsHierarchy (given_arcs roads turns) (up ++ down) (λ node. node)
