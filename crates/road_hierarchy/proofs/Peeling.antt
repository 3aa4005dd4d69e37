-- Nodes of least rank are peeled off a walk, rank by rank, until it rises and then falls.
use Rattle.std.proofs.Common.{◌≡◌, ◌≢◌, ℕ, zero, suc, ◌+◌, ◌<◌, ◌≤◌, ◌⊎◌, inl, inr, List, [], ◌∷◌, ◌++◌, Contains, refl, sym, ap, ◌∙◌, subst, arith, add-one}
use Rattle.std.proofs.lemmas.Bool.{cases_lt}
use Rattle.road_network.specs.declared.arc.Arc.{Arc}
use Rattle.road_network.specs.Walk.{IsWalk, walk_seconds}
use Rattle.road_hierarchy.specs.Hierarchy.{HasWalkWithin, IsWalkOf, Rises, Falls, IsHigh, HasWaysPast, IsHierarchy, HasUpDownWithin}
use Rattle.road_hierarchy.proofs.Walks.{seconds-cons, seconds-append, walk-append, walk-weaker, walk-replaced, to_kind, from_kind}

-- soundness
pub up_down_is_walk : (network arcs : List Arc) (rank : ℕ → ℕ) (a b seconds : ℕ) → IsHierarchy network arcs rank → HasUpDownWithin rank arcs a b seconds
    → HasWalkWithin network a b seconds
up_down_is_walk network arcs rank a b seconds h way =
    let up = walk-weaker (Rises rank arcs) (Contains arcs) (λ arc r. r.0) way.up a way.top way.rises in
    let down = walk-weaker (Falls rank arcs) (Contains arcs) (λ arc r. r.0) way.down way.top b way.falls in
    let all = walk-append (Contains arcs) way.up way.down a way.top b up down in
    let there = walk-replaced (Contains arcs) (Contains network) (λ arc among. let w = h.sound arc among in
    (w.0, to_kind network w.0 arc.from arc.to w.1, w.2)) (way.up ++ way.down) a b all in
    (there.0, from_kind network there.0 a b there.1, omega (arith, there.2, way.takes, seconds-append way.up way.down))

module _ (rank : ℕ → ℕ) (arcs : List Arc) (apart : (arc : Arc) → Contains arcs arc → rank arc.from ≢ rank arc.to) (past : HasWaysPast rank arcs) where
  -- a walk over nodes of rank k or more: up from where it starts, over higher nodes, and down to where it ends
  record Peeled (k start goal seconds : ℕ) : Type 0 where
    pub first : ℕ
    pub last : ℕ
    pub walk : List Arc
    pub climb : ℕ
    pub drop : ℕ
    pub rises : (start ≡ first) ⊎ ((arc : Arc) × Rises rank arcs arc × (arc.from ≡ start) × (arc.to ≡ first) × (rank start ≡ k) × (arc.seconds ≤ climb))
    pub walks : IsWalkOf (IsHigh rank arcs (k + 1)) first walk last
    pub falls : (last ≡ goal) ⊎ ((arc : Arc) × Falls rank arcs arc × (arc.from ≡ last) × (arc.to ≡ goal) × (rank goal ≡ k) × (arc.seconds ≤ drop))
    pub takes : climb + walk_seconds walk + drop ≤ seconds

  -- a walk over higher nodes from a node that isn't higher goes nowhere
  stays : (k : ℕ) (walk : List Arc) (start goal : ℕ) → rank start ≡ k → IsWalkOf (IsHigh rank arcs (k + 1)) start walk goal → start ≡ goal
  stays k [] start goal low walks = walks
  stays k (first ∷ rest) start goal low walks = let high : k + 1 ≤ rank start = subst (λ x. k + 1 ≤ rank x) walks.1 walks.0.1 in absurd (omega
      (arith, high, low))

  -- an arc between higher nodes comes first
  over : (k : ℕ) (arc : Arc) (goal seconds : ℕ) → Contains arcs arc → k < rank arc.from → k < rank arc.to → Peeled k arc.to goal seconds
      → Peeled k arc.from goal (arc.seconds + seconds)
  over k arc goal seconds among from_high to_high p = elim (p.rises) [
    | inl e ↦ record {
      first = arc.from;
      last = p.last;
      walk = arc ∷ p.walk;
      climb = 0;
      drop = p.drop;
      rises = inl refl;
      walks = (
        (among, omega (arith, from_high), omega (arith, to_high)),
        refl,
        subst (λ x. IsWalkOf (IsHigh rank arcs (k + 1)) x p.walk p.last)
            (sym e) p.walks,
      );
      falls = p.falls;
      takes = omega (arith, p.takes, seconds-cons arc p.walk);
    }
    | inr step ↦ absurd (omega (arith, step.4, to_high))
  ]

  -- an arc up from the least node comes first
  climbs : (k : ℕ) (arc : Arc) (goal seconds : ℕ) → Contains arcs arc → rank arc.from ≡ k → k < rank arc.to → Peeled k arc.to goal seconds
      → Peeled k arc.from goal (arc.seconds + seconds)
  climbs k arc goal seconds among from_low to_high p = elim (p.rises) [
    | inl e ↦ record {
      first = p.first;
      last = p.last;
      walk = p.walk;
      climb = arc.seconds;
      drop = p.drop;
      rises = inr (arc, (among, omega (arith, from_low, to_high)), refl, e, from_low, omega arith);
      walks = p.walks;
      falls = p.falls;
      takes = omega (arith, p.takes);
    }
    | inr step ↦ absurd (omega (arith, step.4, to_high))
  ]

  -- the walk ends at the least node, to which an arc leads down
  ends : (k : ℕ) (arc : Arc) (last goal drop seconds : ℕ) → Contains arcs arc → k < rank arc.from → rank arc.to ≡ k → arc.to ≡ last
      → (last ≡ goal) ⊎ ((a : Arc) × Falls rank arcs a × (a.from ≡ last) × (a.to ≡ goal) × (rank goal ≡ k) × (a.seconds ≤ drop)) → Peeled k arc.from goal
      (arc.seconds + seconds)
  ends k arc last goal drop seconds among from_high to_low here (inl e) =
      let there : arc.to ≡ goal = here ∙ e in
      let low : rank goal ≡ k = subst (λ x. rank x ≡ k) there to_low in
      record {
        first = arc.from;
        last = arc.from;
        walk = [];
        climb = 0;
        drop = arc.seconds;
        rises = inl refl;
        walks = refl;
        falls = inr (arc, (among, omega (arith, from_high, to_low)), refl, there, low, omega arith);
        takes = omega arith;
      }
  ends k arc last goal drop seconds among from_high to_low here (inr (a, falls, from, to, low, short)) =
      let at : rank a.from ≡ k = subst (λ x. rank x ≡ k) (here ∙ sym from) to_low in
      let end : rank a.to ≡ k = subst (λ x. rank x ≡ k) (sym to) low in
      absurd (omega (arith, at, end, falls.1))

  -- the walk goes through the least node
  through : (k : ℕ) (arc : Arc) (goal seconds : ℕ) → Contains arcs arc → k < rank arc.from → rank arc.to ≡ k → Peeled k arc.to goal seconds
      → Peeled k arc.from goal (arc.seconds + seconds)
  through k arc goal seconds among from_high to_low p = elim (p.rises) [
    | inl e ↦
        let nowhere : arc.to ≡ p.last = e ∙ stays k p.walk p.first p.last (subst (λ x. rank x ≡ k) e to_low) p.walks in
        ends k arc p.last goal p.drop seconds among from_high to_low nowhere p.falls
    | inr (out, rises, from, to, low, short) ↦
        let up : rank out.from < rank out.to = rises.1 in
        let way = past arc out among rises.0 (sym from) (omega (arith, from_high, to_low)) up in
        let walks : IsWalkOf (IsHigh rank arcs (k + 1)) arc.from way.0 p.first = subst (λ x. IsWalkOf (IsHigh rank arcs (x + 1)) arc.from way.0 p.first)
        to_low (subst (λ x. IsWalkOf (IsHigh rank arcs (rank arc.to + 1)) arc.from way.0 x) to way.1) in
        record {
          first = arc.from;
          last = p.last;
          walk = way.0 ++ p.walk;
          climb = 0;
          drop = p.drop;
          rises = inl refl;
          walks = walk-append (IsHigh rank arcs (k + 1)) way.0 p.walk arc.from p.first p.last walks p.walks;
          falls = p.falls;
          takes = omega (arith, p.takes, way.2, short, seconds-append way.0 p.walk);
        }
  ]

  front : (k : ℕ) (arc : Arc) (goal seconds : ℕ) → IsHigh rank arcs k arc → Peeled k arc.to goal seconds → Peeled k arc.from goal (arc.seconds + seconds)
  front k arc goal seconds (among, from, to) p = elim (cases_lt k (rank arc.from)) [
    | inl from_high ↦ elim (cases_lt k (rank arc.to)) [
      | inl to_high ↦ over k arc goal seconds among from_high to_high p
      | inr to_low ↦ through k arc goal seconds among from_high (omega (arith, to, to_low)) p
    ]
    | inr from_low ↦ climbs k arc goal seconds among (omega (arith, from, from_low)) (omega (arith, from, from_low, to, apart arc among)) p
  ]

  peel : (k : ℕ) (walk : List Arc) (start goal : ℕ) → IsWalkOf (IsHigh rank arcs k) start walk goal → Peeled k start goal (walk_seconds walk)
  peel k [] start goal walks = record {
    first = start;
    last = goal;
    walk = [];
    climb = 0;
    drop = 0;
    rises = inl refl;
    walks = walks;
    falls = inl refl;
    takes = omega arith;
  }
  peel k (arc ∷ rest) start goal walks =
      subst (λ s. Peeled k start goal s) (sym (seconds-cons arc rest))
      (subst (λ x. Peeled k x goal (arc.seconds + walk_seconds rest)) walks.1 (front k arc goal (walk_seconds rest) walks.0 (peel k rest arc.to goal walks.2)))

  -- up, over nodes of rank k or more, and down
  record IsPartly (k start goal seconds : ℕ) : Type 0 where
    pub first : ℕ
    pub last : ℕ
    pub up : List Arc
    pub walk : List Arc
    pub down : List Arc
    pub rises : IsWalkOf (Rises rank arcs) start up first
    pub walks : IsWalkOf (IsHigh rank arcs k) first walk last
    pub falls : IsWalkOf (Falls rank arcs) last down goal
    pub takes : walk_seconds up + walk_seconds walk + walk_seconds down ≤ seconds

  climbed : (k start first climb : ℕ) → (start ≡ first) ⊎ ((arc : Arc) × Rises rank arcs arc × (arc.from ≡ start) × (arc.to ≡ first) × (rank start ≡ k) ×
      (arc.seconds ≤ climb))
      → (walk : List Arc) × IsWalkOf (Rises rank arcs) start walk first × (walk_seconds walk ≤ climb)
  climbed k start first climb (inl e) = ([], e, omega arith)
  climbed k start first climb (inr (arc, rises, from, to, low, short)) = (arc ∷ [], (rises, from, to), omega (arith, short, seconds-cons arc []))

  dropped : (k last goal drop : ℕ) → (last ≡ goal) ⊎ ((arc : Arc) × Falls rank arcs arc × (arc.from ≡ last) × (arc.to ≡ goal) × (rank goal ≡ k) ×
      (arc.seconds ≤ drop))
      → (walk : List Arc) × IsWalkOf (Falls rank arcs) last walk goal × (walk_seconds walk ≤ drop)
  dropped k last goal drop (inl e) = ([], e, omega arith)
  dropped k last goal drop (inr (arc, falls, from, to, low, short)) = (arc ∷ [], (falls, from, to), omega (arith, short, seconds-cons arc []))

  partly_more : (k start goal seconds : ℕ) → IsPartly k start goal seconds → IsPartly (k + 1) start goal seconds
  partly_more k start goal seconds p =
      let q = peel k p.walk p.first p.last p.walks in
      let c = climbed k p.first q.first q.climb q.rises in
      let d = dropped k q.last p.last q.drop q.falls in
      record {
        first = q.first;
        last = q.last;
        up = p.up ++ c.0;
        walk = q.walk;
        down = d.0 ++ p.down;
        rises = walk-append (Rises rank arcs) p.up c.0 start p.first q.first p.rises c.1;
        walks = q.walks;
        falls = walk-append (Falls rank arcs) d.0 p.down q.last p.last goal d.1 p.falls;
        takes = omega (arith, p.takes, q.takes, c.2, d.2, seconds-append p.up c.0, seconds-append d.0 p.down);
      }

  partly : (k : ℕ) (walk : List Arc) (start goal : ℕ) → IsWalkOf (Contains arcs) start walk goal → IsPartly k start goal (walk_seconds walk)
  partly zero walk start goal walks = record {
    first = start;
    last = goal;
    up = [];
    walk = walk;
    down = [];
    rises = refl;
    walks = walk-weaker (Contains arcs) (IsHigh rank arcs 0) (λ arc among. (among, omega arith, omega arith)) walk start goal walks;
    falls = refl;
    takes = omega arith;
  }
  partly (suc k) walk start goal walks = subst (λ x. IsPartly x start goal (walk_seconds walk)) (add-one k)
      (partly_more k start goal (walk_seconds walk) (partly k walk start goal walks))

  -- above all ranks there is no arc
  none_high : (n : ℕ) (walk : List Arc) (start goal : ℕ) → ((arc : Arc) → Contains arcs arc → rank arc.from < n) → IsWalkOf
      (IsHigh rank arcs n) start walk goal → start ≡ goal
  none_high n [] start goal below walks = walks
  none_high n (arc ∷ rest) start goal below (kind, from, walks) = absurd (omega (arith, below arc kind.0, kind.1))

  up_and_down : (n : ℕ) → ((arc : Arc) → Contains arcs arc → rank arc.from < n) → (walk : List Arc) (start goal : ℕ) → IsWalkOf
      (Contains arcs) start walk goal → HasUpDownWithin rank arcs start goal (walk_seconds walk)
  up_and_down n below walk start goal walks =
      let p = partly n walk start goal walks in
      record {
        top = p.first;
        up = p.up;
        down = p.down;
        rises = p.rises;
        falls = subst (λ x. IsWalkOf (Falls rank arcs) x p.down goal) (sym (none_high n p.walk p.first p.last below p.walks)) p.falls;
        takes = omega (arith, p.takes);
      }

-- some number is above all ranks
bound_of : (rank : ℕ → ℕ) (arcs : List Arc) → (n : ℕ) × ((arc : Arc) → Contains arcs arc → rank arc.from < n)
bound_of rank [] = (0, λ arc (k, within, is). absurd (omega arith))
bound_of rank (first ∷ rest) =
    let more = bound_of rank rest in
    (more.0 + rank first.from + 1, λ arc among. bounded first rest more.0 more.1 arc among)
  where
    bounded : (first : Arc) (rest : List Arc) (n : ℕ) → ((arc : Arc) → Contains rest arc → rank arc.from < n) → (arc : Arc) → Contains (first ∷ rest) arc
        → rank arc.from < n + rank first.from + 1
    bounded first rest n below arc (zero, within, is) = let e : rank first.from ≡ rank arc.from = ap (λ (a : Arc). rank a.from) is in omega (arith, e)
    bounded first rest n below arc (suc k, within, is) = omega (arith, below arc (k, omega (arith, within), is))

-- completeness
pub walk_is_up_down : (network arcs walk : List Arc) (rank : ℕ → ℕ) (a b : ℕ) → IsHierarchy network arcs rank → IsWalk network a walk b
    → HasUpDownWithin rank arcs a b (walk_seconds walk)
walk_is_up_down network arcs walk rank a b h walks =
    let there = walk-replaced (Contains network) (Contains arcs) (λ arc among. let w = h.whole arc among in
    (w.0, to_kind arcs w.0 arc.from arc.to w.1, w.2)) walk a b (to_kind network walk a b walks) in
    let bound = bound_of rank arcs in
    let way = up_and_down rank arcs h.apart h.past bound.0 bound.1 there.0 a b there.1 in
    record { top = way.top; up = way.up; down = way.down; rises = way.rises; falls = way.falls; takes = omega (arith, way.takes, there.2) }
