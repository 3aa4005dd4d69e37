-- What two passes make of a row.
use Rattle.std.proofs.Common.{◌≡◌, ℕ, ◌+◌, ◌<◌, ◌≤◌, inl, inr, Bool, true, List, [], ◌∷◌, ◌++◌, slice_index, All, Contains, sym, ap, ◌∙◌, subst, arith}
use Rattle.std.proofs.lemmas.Bool.{cases_eq, cases_lt}
use Rattle.std.proofs.lemmas.Bool.Decides.{nat_tests}
use Rattle.pool_base.specs.TravelTime.{never}
use Rattle.std.proofs.lemmas.List.Elements.{All-contains}
use Rattle.road_network.specs.declared.arc.Arc.{Arc}
use Rattle.road_network.specs.Walk.{IsWalk, IsTimeBetween, walk_seconds}
use Rattle.road_hierarchy.specs.Hierarchy.{HasWalkWithin, IsWalkOf, Rises, Falls}
use Rattle.road_hierarchy.specs.work.sweeps.Sweep.{AreSweeps, HasShortWalks, IsMatchedIn, IsStart, IsWithin, SweepsTo, closed_cell, far}
use Rattle.road_hierarchy.proofs.Walks.{seconds-cons, seconds-append, walk-append, walk-weaker, walk-replaced, to_kind, from_kind}
use Rattle.road_hierarchy.proofs.Peeling.{walk_is_up_down}

-- where no arc of a kind betters a cell, no walk of that kind does
pub settled_walk : (Kind : Arc → Type 0) (row : List ℕ) → ((arc : Arc) → Kind arc → slice_index row arc.to ≤ slice_index row arc.from + arc.seconds)
    → (walk : List Arc) (start goal : ℕ) → IsWalkOf Kind start walk goal → slice_index row goal ≤ slice_index row start + walk_seconds walk
settled_walk Kind row settled [] start goal walks = rw walks (omega arith)
settled_walk Kind row settled (first ∷ rest) start goal walks =
    let here : slice_index row first.to ≤ slice_index row start + first.seconds = subst (λ x. slice_index row first.to ≤ slice_index row x + first.seconds)
    walks.1 (settled first walks.0) in
    omega (arith, here, settled_walk Kind row settled rest first.to goal walks.2, seconds-cons first rest)

-- where no arc of a list betters a cell, no arc that is matched does
pub settled_matched : (arcs : List Arc) (row : List ℕ) → ((arc : Arc) → Contains arcs arc → slice_index row arc.to ≤ slice_index row arc.from + arc.seconds)
    → (arc : Arc) → IsMatchedIn arcs arc → slice_index row arc.to ≤ slice_index row arc.from + arc.seconds
settled_matched arcs row settled arc (other, among, from, to, short) = let better = settled other among in omega
    (arith, better, short, ap (slice_index row) from, ap (slice_index row) to)

-- a walk down to a wanted node is one along arcs that are matched
pub wanted_walk : (arcs down : List Arc) (rank : ℕ → ℕ) (wanted : ℕ → Bool)
    → ((arc : Arc) → Falls rank arcs arc → wanted arc.to ≡ true → IsMatchedIn down arc × (wanted arc.from ≡ true))
    → (walk : List Arc) (start goal : ℕ) → wanted goal ≡ true → IsWalkOf (Falls rank arcs) start walk goal → IsWalkOf (IsMatchedIn down) start walk goal ×
    (wanted start ≡ true)
wanted_walk arcs down rank wanted closed [] start goal want walks = (walks, ap wanted walks ∙ want)
wanted_walk arcs down rank wanted closed (first ∷ rest) start goal want walks =
    let more = wanted_walk arcs down rank wanted closed rest first.to goal want walks.2 in
    let here = closed first walks.0 more.1 in
    ((here.0, walks.1, more.0), ap wanted (sym walks.1) ∙ here.1)

-- a walk up from a known node is one along arcs that are matched
pub known_walk : (arcs up : List Arc) (rank : ℕ → ℕ) (known : ℕ → Bool)
    → ((arc : Arc) → Rises rank arcs arc → known arc.from ≡ true → IsMatchedIn up arc × (known arc.to ≡ true))
    → (walk : List Arc) (start goal : ℕ) → known start ≡ true → IsWalkOf (Rises rank arcs) start walk goal → IsWalkOf (IsMatchedIn up) start walk goal
known_walk arcs up rank known closed [] start goal know walks = walks
known_walk arcs up rank known closed (first ∷ rest) start goal know walks =
    let here = closed first walks.0 (ap known walks.1 ∙ know) in
    (here.0, walks.1, known_walk arcs up rank known closed rest first.to goal here.1 walks.2)

-- a walk along arcs between the first n nodes begins at one of them
pub start_inside : (arcs : List Arc) (n : ℕ) → All (IsWithin n) arcs → (walk : List Arc) (start goal : ℕ) → IsWalk arcs start walk goal → goal < n → start < n
start_inside arcs n within [] start goal walks inside = omega (arith, walks, inside)
start_inside arcs n within (first ∷ rest) start goal walks inside = omega (arith, walks.1, (All-contains (IsWithin n) arcs first within walks.0).0)

module _ (network arcs : List Arc) (rank : ℕ → ℕ) (known wanted : ℕ → Bool) (up down : List Arc) (are : AreSweeps network arcs rank known wanted up down)
    (n source : ℕ) (row0 row1 row2 : List ℕ) (start : IsStart n source row0) (first : SweepsTo up row0 row1) (second : SweepsTo down row1 row2)
    (up_within : All (IsWithin n) up) (down_within : All (IsWithin n) down) where
  -- no walk is shorter than the cell of its end
  pub none_shorter : (goal : ℕ) → known source ≡ true → wanted goal ≡ true → (walk : List Arc) → IsWalk network source walk goal
      → slice_index row2 goal ≤ walk_seconds walk
  none_shorter goal know want walk walks =
      let way = walk_is_up_down network arcs walk rank source goal are.hierarchy walks in
      let ahead = known_walk arcs up rank known are.ups way.up source way.top know way.rises in
      let rise = settled_walk (IsMatchedIn up) row1 (λ arc kind. settled_matched up row1 first.settled arc kind) way.up source way.top ahead in
      let along = wanted_walk arcs down rank wanted are.downs way.down way.top goal want way.falls in
      let fall = settled_walk (IsMatchedIn down) row2 (λ arc kind. settled_matched down row2 second.settled arc kind) way.down way.top goal along.0 in
      omega (arith, rise, fall, way.takes, first.no_later source, second.no_later way.top, start.zero)

  -- a cell below `far` is as long as some walk of the network
  pub found : (goal : ℕ) → goal < n → slice_index row2 goal < far → HasWalkWithin network source goal (slice_index row2 goal)
  found goal inside near =
      let back = second.from goal in
      let more = first.from back.0 in
      let via_inside = start_inside down n down_within back.1 back.0 goal back.2 inside in
      let from_inside = start_inside up n up_within more.1 more.0 back.0 more.2 via_inside in
      let tail : IsWalkOf (Contains arcs) back.0 back.1 goal = walk-weaker (Contains down) (Contains arcs) are.down_among back.1 back.0 goal
      (to_kind down back.1 back.0 goal back.2) in
      let head : IsWalkOf (Contains arcs) more.0 more.1 back.0 = walk-weaker (Contains up) (Contains arcs) are.up_among more.1 more.0 back.0
      (to_kind up more.1 more.0 back.0 more.2) in
      let all = walk-append (Contains arcs) more.1 back.1 more.0 back.0 goal head tail in
      let there = walk-replaced (Contains arcs) (Contains network) (λ arc among. let w = are.hierarchy.sound arc among in
      (w.0, to_kind network w.0 arc.from arc.to w.1, w.2)) (more.1 ++ back.1) more.0 goal all in
      elim (cases_eq more.0 source) [
        | inl e ↦ (
          there.0,
          subst (λ x. IsWalk network x there.0 goal) e (from_kind network there.0 more.0 goal there.1),
          omega
              (arith, there.2, seconds-append more.1 back.1, back.3, more.3),
        )
        | inr ne ↦ absurd (omega (arith, start.others more.0 from_inside ne, near, back.3, more.3))
      ]

  -- each wanted cell, once closed, is the travel time
  pub times_are : (goal : ℕ) → HasShortWalks network source goal → goal < n → known source ≡ true → wanted goal ≡ true → IsTimeBetween network source goal
      (closed_cell (slice_index row2 goal))
  times_are goal short inside know want = elim (cases_lt (slice_index row2 goal) far) [
    | inl near ↦
        let is : closed_cell (slice_index row2 goal) ≡ slice_index row2 goal = grind (arith, nat_tests, near) in
        let walk = found goal inside near in
        inl (record {
          walk = walk.0;
          walks = walk.1;
          takes = omega (arith, is, walk.2, none_shorter goal know want walk.0 walk.1);
          least = λ other walks. omega (arith, is, none_shorter goal know want other walks);
        })
    | inr past ↦
        let is : closed_cell (slice_index row2 goal) ≡ never = grind (arith, nat_tests, past) in
        inr (λ walk walks. (let other = short walk walks in absurd (omega (arith, other.2, past, none_shorter goal know want other.0 other.1))), is)
  ]
