-- The nodes that shortest walks from a start come to, each with where it was come from.
use Rattle.std.specs.Prelude.{◌≡◌, ℕ, ◌+◌, ◌<◌, ◌≤◌, Bool, true, false, not, List, length, count_by, Contains, slice_index, slice_index_or}
use Rattle.pool_base.specs.TravelTime.{never}
use Rattle.road_network.specs.declared.arc.Arc.{Arc}
use Rattle.road_network.specs.declared.hop.Hop.{Hop}
use Rattle.road_network.specs.Roads.{Roads}
use Rattle.road_network.specs.Walk.{IsWalk, walk_seconds}
use Rattle.route_drive.specs.declared.tree.Found.{Found}
use Rattle.route_drive.specs.declared.walk.WalkStep.{WalkStep}
use Rattle.route_drive.specs.Walk.{steps_of}

-- what is read where nothing was found
abbrev pub no_found : Found
no_found = record { node = 0; by = 0 }

abbrev pub found_at : List Found → ℕ → Found
found_at found k = slice_index_or found k no_found

-- whether a node is marked
abbrev pub is_seen : List Bool → ℕ → Bool
is_seen seen node = slice_index_or seen node false

-- an arc on which the times from the start rise by its seconds
pub record IsTight (arcs : List Arc) (times : List ℕ) (from to : ℕ) : Type 0 where
  pub arc : Arc
  pub among : Contains arcs arc
  pub leaves : arc.from ≡ from
  pub ends : arc.to ≡ to
  pub rises : slice_index times from + arc.seconds ≡ slice_index times to

-- the nodes found so far: the first is where the search began, each later one was found by a tight arc from an earlier
-- one; the marked nodes are those that were found, and as many are unmarked as are left to find
pub record IsTree (arcs : List Arc) (times : List ℕ) (seen : List Bool) (found : List Found) : Type 0 where
  pub marks : length seen ≡ length times
  pub some : 0 < length found
  pub within : (k : ℕ) → k < length found → (found_at found k).node < length times
  pub reached : (k : ℕ) → k < length found → slice_index times (found_at found k).node < never
  pub earlier : (k : ℕ) → 0 < k → k < length found → (found_at found k).by < k
  pub tight : (k : ℕ) → 0 < k → k < length found → IsTight arcs times (found_at found (found_at found k).by).node (found_at found k).node
  pub marked : (node : ℕ) → is_seen seen node ≡ true → (k : ℕ) × (k < length found) × ((found_at found k).node ≡ node)
  pub first_marked : is_seen seen (found_at found 0).node ≡ true
  pub count : length found + count_by not seen ≡ length times

-- the first hops of a node are opened: those that are tight lead to marked nodes, as far as times are at most this
abbrev pub AreHopsOpened : List Hop → ℕ → ℕ → List ℕ → ℕ → List Bool → Type 0
AreHopsOpened hops count here times most seen = (k : ℕ) (d : Hop) → k < count → k < length hops → slice_index times (slice_index_or hops k d).to ≤ most
    → here + (slice_index_or hops k d).seconds ≡ slice_index times (slice_index_or hops k d).to → is_seen seen (slice_index_or hops k d).to ≡ true

-- a node is opened: its tight arcs lead to marked nodes, as far as times are at most this
abbrev pub IsOpened : List Arc → List ℕ → ℕ → List Bool → ℕ → Type 0
IsOpened arcs times most seen node = (arc : Arc) → Contains arcs arc → arc.from ≡ node → slice_index times arc.to ≤ most
    → slice_index times node + arc.seconds ≡ slice_index times arc.to → is_seen seen arc.to ≡ true

-- nothing that was found or marked is lost
pub record Grows (seen seen' : List Bool) (found found' : List Found) : Type 0 where
  pub longer : length found ≤ length found'
  pub kept : (k : ℕ) → k < length found → found_at found' k ≡ found_at found k
  pub still : (node : ℕ) → is_seen seen node ≡ true → is_seen seen' node ≡ true

-- a search at work: so many of the found are opened
pub record IsGrowing (arcs : List Arc) (times : List ℕ) (start most count : ℕ) (seen : List Bool) (found : List Found) : Type 0 where
  pub tree : IsTree arcs times seen found
  pub first : (found_at found 0).node ≡ start
  pub opened : (k : ℕ) → k < count → k < length found → IsOpened arcs times most seen (found_at found k).node

-- steps of a walk to a node from another, on which the times rise by the arcs' seconds
pub record IsWalkBack (roads : Roads) (times : List ℕ) (from to : ℕ) (steps : List WalkStep) : Type 0 where
  pub walk : List Arc
  pub walks : IsWalk roads.arcs from walk to
  pub takes : slice_index times from + walk_seconds walk ≡ slice_index times to
  pub told : steps ≡ steps_of roads.nodes from (slice_index times from) walk
