-- Where a vehicle is reported at a seal, its stops to come are still reached at their seconds.
use Rattle.std.proofs.Common.{
  ◌≡◌,
  ◌⊎◌,
  ℕ,
  ◌+◌,
  ◌<◌,
  ◌≤◌,
  true,
  List,
  [],
  ◌∷◌,
  length,
  get_or,
  max,
  Option,
  None,
  Some,
  inl,
  inr,
  refl,
  sym,
  ap,
  ◌∙◌,
  subst,
  arith,
  rules,
}
use Rattle.route_drive.proofs.Common.{
  AllByRecursion,
  sum_by-cons,
  PlannedStop,
  Arc,
  Roads,
  IsNetwork,
  index_in,
  has_node,
  IsWalk,
  walk_seconds,
  IsLeastTime,
  NodeAt,
  Stay,
  IsReported,
  goal_of,
  reached_by,
  steps_of,
  AreReached,
  leb-true,
  lt-ltb,
  le-ltb,
  cases_lt,
  cond_both,
  and_parts,
  goal_within,
  nat_tests,
}
use Rattle.route_drive.specs.Entering.{IsWay}
use Rattle.route_drive.proofs.kept.Walks.{rest_is_least, has_index, index_at, is_node_at, contains_node}

-- where a vehicle is on a walk parts it: it comes there at now or later, or has come to the walk's end by now
record IsOnWay (roads : Roads) (now free from goal acc : ℕ) (walk : List Arc) (there : NodeAt) : Type 0 where
  via : ℕ
  before : List Arc
  rest : List Arc
  leads : IsWalk roads.arcs from before via
  onward : IsWalk roads.arcs via rest goal
  whole : walk_seconds before + walk_seconds rest ≡ walk_seconds walk
  node : there.node ≡ get_or roads.nodes via 0
  by : now ≤ there.second
  second : (there.second ≡ free + (acc + walk_seconds before)) ⊎ (free + (acc + walk_seconds walk) ≤ now)

on_way : (roads : Roads) (now free from goal acc node : ℕ) (walk : List Arc) → IsWalk roads.arcs from walk goal →
    IsOnWay roads now free from goal acc walk (reached_by now free node (steps_of roads.nodes from acc walk))
on_way roads now free from goal acc node [] walks =
    cond_both _ _ _ (IsOnWay roads now free from goal acc [])
    (λ hit. record {
      via = from;
      before = [];
      rest = [];
      leads = refl;
      onward = walks;
      whole = refl;
      node = refl;
      by =
          leb-true now (free + acc) (and_parts _ _ hit).0;
      second = inl (omega arith);
    })
    (λ miss. record {
      via = from;
      before = [];
      rest = [];
      leads = refl;
      onward = walks;
      whole = refl;
      node = refl;
      by = omega arith;
      second =
          inr (grind (arith, nat_tests, miss));
    })
on_way roads now free from goal acc node (arc ∷ walk) walks =
    cond_both _ _ _ (IsOnWay roads now free from goal acc (arc ∷ walk))
    (λ hit. record {
      via = from;
      before = [];
      rest = arc ∷ walk;
      leads = refl;
      onward = walks;
      whole = omega arith;
      node = refl;
      by =
          leb-true now (free + acc) (and_parts _ _ hit).0;
      second = inl (omega arith);
    })
    (λ miss.
    let on = on_way roads now free arc.to goal (acc + arc.seconds) (get_or roads.nodes from 0) walk walks.2 in
    let more = sum_by-cons (λ (a : Arc). a.seconds) arc in record {
      via = on.via;
      before = arc ∷ on.before;
      rest = on.rest;
      leads = (walks.0, walks.1, on.leads);
      onward = on.onward;
      whole = omega (arith, more walk, more on.before, on.whole);
      node = on.node;
      by = on.by;
      second = elim on.second [
        | inl here ↦ inl (omega (arith, more on.before, here))
        | inr over ↦ inr (omega (arith, more walk, over))
      ];
    })

-- what a report leaves: the stops to come are reached from there
pub record IsThere (roads : Roads) (dwell now : ℕ) (at : Stay) (stops : List PlannedStop) (there : NodeAt) : Type 0 where
  pub reached : AreReached roads dwell there.node there.second stops
  pub named : has_node roads.nodes there.node ≡ true
  pub by : now ≤ there.second
  pub later : at.second ≤ there.second

module _ (roads : Roads) (net : IsNetwork roads) (dwell now : ℕ) (at : Stay) (here : has_node roads.nodes at.node ≡ true) (left : at.second ≤ at.free)
    (target : Option ℕ) (there : NodeAt) where
  -- the steps of a walk from here are nodes
  step_named : (goal : ℕ) (walk : List Arc) (via : ℕ) → IsWalk roads.arcs (index_in roads.nodes at.node) walk via → via < length roads.nodes
  step_named goal walk via walks = goal_within roads.arcs walk (length roads.nodes) (index_in roads.nodes at.node) via net.arcs walks
      (has_index roads.nodes at.node here)

  stands : (time : ℕ) (stops : List PlannedStop) → there ≡ record { node = at.node; second = time } → now ≤ time → at.second ≤ time →
      AreReached roads dwell at.node time stops → IsThere roads dwell now at stops there
  stands time stops is by later reached = subst (IsThere roads dwell now at stops) (sym is) (record { reached = reached; named = here; by = by; later = later })

  pub reported_there : (stops : List PlannedStop) → AllByRecursion (λ (s : PlannedStop). has_node roads.nodes s.node ≡ true) stops →
      AllByRecursion (λ (s : PlannedStop). now < s.second) stops
      → AreReached roads dwell at.node at.free stops → IsReported roads now at (goal_of target stops) there → IsThere roads dwell now at stops there
  reported_there stops named later reached told = elim (cases_lt now at.free) [
    | inl early ↦ stands at.free stops (rests (rw (lt-ltb now at.free early) at told.way) ∙
        ap (λ s. let p : NodeAt = record { node = at.node; second = s } in p) (omega arith)) (omega arith) left reached
    | inr free ↦ goes stops named later reached free (goal_of target stops) refl (rw (le-ltb now at.free free) at told.way)
  ]
    where
      rests : told.steps ≡ [] → there ≡ record { node = at.node; second = max now at.free }
      rests none = told.is ∙ ap (reached_by now at.free at.node) none

      goes : (stops : List PlannedStop) → AllByRecursion (λ (s : PlannedStop). has_node roads.nodes s.node ≡ true) stops →
          AllByRecursion (λ (s : PlannedStop). now < s.second) stops → AreReached roads dwell at.node at.free stops → at.free ≤ now
          → (goal : Option ℕ) → goal_of target stops ≡ goal → IsWay roads at.node goal told.steps → IsThere roads dwell now at stops there
      goes [] named later reached free None goal none = stands (max now at.free) [] (rests none) (omega arith) (omega arith) tt
      goes (s ∷ stops) named later reached free None goal none = absurd cc
      goes [] named later reached free (Some to) goal (inr none) = stands (max now at.free) [] (rests none.0) (omega arith) (omega arith) tt
      goes (s ∷ stops) named later reached free (Some to) goal (inr none) = search (rules, contains_node)
      goes stops named later reached free (Some to) goal (inl shortest) =
          let way = subst (IsOnWay roads now at.free (index_in roads.nodes at.node) (index_in roads.nodes to) 0 shortest.walk)
          (sym (told.is ∙ ap (reached_by now at.free at.node) shortest.told))
          (on_way roads now at.free (index_in roads.nodes at.node) (index_in roads.nodes to) 0 at.node shortest.walk shortest.walks) in
          let l = step_named to way.before way.via way.leads in record {
            reached = from_step stops way l later reached goal;
            named = subst (λ n. has_node roads.nodes n ≡ true) (sym way.node) (is_node_at roads.nodes way.via l);
            by = way.by;
            later = omega (arith, way.by, way.second);
          }
        where
          from_step : (stops : List PlannedStop) → (way : IsOnWay roads now at.free (index_in roads.nodes at.node) (index_in roads.nodes to) 0 shortest.walk
              there) → way.via < length roads.nodes → AllByRecursion (λ (s : PlannedStop). now < s.second) stops
              → AreReached roads dwell at.node at.free stops → goal_of target stops ≡ Some to → AreReached roads dwell there.node there.second stops
          from_step [] way l later reached goal = tt
          from_step (s ∷ stops) way l later reached goal =
              let e : s.node ≡ to = cc in
              let index : index_in roads.nodes there.node ≡ way.via = ap (index_in roads.nodes) way.node ∙ index_at roads.nodes way.via net.distinct l in
              let leads_walk = subst (λ n. IsWalk roads.arcs (index_in roads.nodes at.node) reached.0.least.walk (index_in roads.nodes n)) e
              reached.0.least.walks in
              let short_walk = subst (λ n. IsWalk roads.arcs (index_in roads.nodes at.node) shortest.walk (index_in roads.nodes n)) (sym e) shortest.walks in
              let a : walk_seconds shortest.walk ≡ reached.0.seconds = omega (
                arith,
                shortest.least reached.0.least.walk leads_walk,
                reached.0.least.least
                    shortest.walk short_walk,
                reached.0.least.takes,
              ) in
              let rest : IsLeastTime roads.arcs way.via (index_in roads.nodes to) (walk_seconds way.rest) =
              rest_is_least roads.arcs way.before way.rest (index_in roads.nodes at.node) way.via (index_in roads.nodes to) way.leads way.onward
              (λ other walks. omega (arith, shortest.least other walks, way.whole)) in (
                record {
                  seconds = walk_seconds way.rest;
                  least = subst (λ n. IsLeastTime roads.arcs (index_in roads.nodes there.node) (index_in roads.nodes n) (walk_seconds way.rest)) (sym e)
                      (subst (λ i. IsLeastTime roads.arcs i (index_in roads.nodes to) (walk_seconds way.rest)) (sym index) rest);
                  short = omega (arith, a, way.whole, reached.0.short);
                  reached = omega (arith, a, way.whole, way.second, reached.0.reached, later.0);
                },
                reached.1,
              )
