-- Walks of a kind: joined, carried to another kind, and replaced arc by arc.
use Rattle.std.proofs.Common.{◌≡◌, ℕ, ◌+◌, ◌≤◌, List, [], ◌∷◌, ◌++◌, Contains, subst, arith}
use Rattle.std.proofs.lemmas.List.Sums.{sum_by-append, sum_by-cons}
use Rattle.road_network.specs.declared.arc.Arc.{Arc}
use Rattle.road_network.specs.Walk.{IsWalk, walk_seconds}
use Rattle.road_hierarchy.specs.Hierarchy.{IsWalkOf}

pub seconds-cons : (arc : Arc) (rest : List Arc) → walk_seconds (arc ∷ rest) ≡ arc.seconds + walk_seconds rest
seconds-cons arc rest = sum_by-cons (λ (a : Arc). a.seconds) arc rest

pub seconds-append : (walk other : List Arc) → walk_seconds (walk ++ other) ≡ walk_seconds walk + walk_seconds other
seconds-append walk other = sum_by-append (λ (a : Arc). a.seconds) walk other

-- one walk after another
pub walk-append : (Kind : Arc → Type 0) (walk other : List Arc) (start via goal : ℕ) → IsWalkOf Kind start walk via → IsWalkOf Kind via other goal
    → IsWalkOf Kind start (walk ++ other) goal
walk-append Kind [] other start via goal walks onward = rw walks onward
walk-append Kind (first ∷ rest) other start via goal walks onward = (walks.0, walks.1, walk-append Kind rest other first.to via goal walks.2 onward)

pub walk-weaker : (Kind Other : Arc → Type 0) → ((arc : Arc) → Kind arc → Other arc) → (walk : List Arc) (start goal : ℕ) → IsWalkOf Kind start walk goal
    → IsWalkOf Other start walk goal
walk-weaker Kind Other weaker [] start goal walks = walks
walk-weaker Kind Other weaker (first ∷ rest) start goal walks = (weaker first walks.0, walks.1, walk-weaker Kind Other weaker rest first.to goal walks.2)

-- where each arc is as long as a walk of another kind, so is each walk
pub walk-replaced : (Kind Other : Arc → Type 0) → ((arc : Arc) → Kind arc → (other : List Arc) × IsWalkOf Other arc.from other arc.to ×
    (walk_seconds other ≤ arc.seconds))
    → (walk : List Arc) (start goal : ℕ) → IsWalkOf Kind start walk goal → (other : List Arc) × IsWalkOf Other start other goal ×
    (walk_seconds other ≤ walk_seconds walk)
walk-replaced Kind Other replace [] start goal walks = ([], walks, omega arith)
walk-replaced Kind Other replace (first ∷ rest) start goal walks =
    let here = replace first walks.0 in
    let more = walk-replaced Kind Other replace rest first.to goal walks.2 in
    let from : IsWalkOf Other start here.0 first.to = subst (λ x. IsWalkOf Other x here.0 first.to) walks.1 here.1 in (
      here.0 ++ more.0,
      walk-append Other here.0 more.0 start first.to goal from more.1,
      omega
          (arith, here.2, more.2, seconds-append here.0 more.0, seconds-cons first rest),
    )

-- walks along a list are walks of the kind "in the list"
pub to_kind : (arcs walk : List Arc) (start goal : ℕ) → IsWalk arcs start walk goal → IsWalkOf (Contains arcs) start walk goal
to_kind arcs [] start goal walks = walks
to_kind arcs (first ∷ rest) start goal walks = (walks.0, walks.1, to_kind arcs rest first.to goal walks.2)

pub from_kind : (arcs walk : List Arc) (start goal : ℕ) → IsWalkOf (Contains arcs) start walk goal → IsWalk arcs start walk goal
from_kind arcs [] start goal walks = walks
from_kind arcs (first ∷ rest) start goal walks = (walks.0, walks.1, from_kind arcs rest first.to goal walks.2)
