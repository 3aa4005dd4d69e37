-- Walks with seconds.
use Rattle.std.specs.Prelude.{◌≡◌, ℕ, ◌+◌, ◌≤◌, List, [], ◌∷◌, slice_index}
use Rattle.road_network.specs.Roads.{Roads, index_in}
use Rattle.road_network.specs.declared.arc.Arc.{Arc}
use Rattle.road_network.specs.Walk.{IsWalk, walk_seconds}
use Rattle.route_drive.specs.declared.walk.WalkStep.{WalkStep}

-- the nodes to which a walk comes from a node, that node included, with seconds that count on from there
abbrev pub steps_of : List ℕ → ℕ → ℕ → List Arc → List WalkStep
steps_of nodes from seconds [] = (record { node = slice_index nodes from; seconds = seconds }) ∷ []
steps_of nodes from seconds (arc ∷ arcs) =
    (record { node = slice_index nodes from; seconds = seconds }) ∷ steps_of nodes arc.to (seconds + arc.seconds) arcs

-- the steps are those of a walk between two nodes, and no walk between them takes fewer seconds
pub record IsShortestWalk (roads : Roads) (from to : ℕ) (steps : List WalkStep) : Type 0 where
  pub walk : List Arc
  pub walks : IsWalk roads.arcs (index_in roads.nodes from) walk (index_in roads.nodes to)
  pub least : (other : List Arc) → IsWalk roads.arcs (index_in roads.nodes from) other (index_in roads.nodes to) → walk_seconds walk ≤ walk_seconds other
  pub told : steps ≡ steps_of roads.nodes (index_in roads.nodes from) 0 walk
