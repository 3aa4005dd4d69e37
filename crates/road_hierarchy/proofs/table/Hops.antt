-- Networks with the same hops have the same travel times.
use Rattle.std.proofs.Common.{◌≡◌, ℕ, ◌+◌, ◌<◌, ◌≤◌, inl, inr, List, [], ◌∷◌, length, get_or, map, All, Contains, refl, sym, ap, ◌∙◌, subst, arith}
use Rattle.std.proofs.lemmas.Bool.{cases_eq}
use Rattle.std.proofs.lemmas.List.{get_or_default, same_lists}
use Rattle.std.proofs.lemmas.List.Elements.{All-contains}
use Rattle.road_network.specs.declared.arc.Arc.{Arc}
use Rattle.road_network.specs.declared.hop.Hop.{Hop}
use Rattle.road_network.specs.Roads.{IsArcAmong, hop_of, leaving}
use Rattle.road_network.specs.Walk.{IsTimeBetween, IsWalk}
use Rattle.travel_times.proofs.lemmas.search.SearchLemmas.{arc_of_hop, hop_of_arc}
use Rattle.road_hierarchy.proofs.build.Reading.{arc_is}

-- hops with the same fields are the same
hop_is : (a b : Hop) → a.to ≡ b.to → a.seconds ≡ b.seconds → a ≡ b
hop_is a b to seconds = let built : ℕ → ℕ → Hop = λ x y. record { to = x; seconds = y } in ap (λ x. built x a.seconds) to ∙ ap (λ y. built b.to y) seconds

-- two hops of two lists have the same fields
abbrev pub HasSameHop : List Hop → List Hop → ℕ → Type 0
HasSameHop a b k = ((get_or a k (record { to = 0; seconds = 0 })).to ≡ (get_or b k (record { to = 0; seconds = 0 })).to)
    × ((get_or a k (record { to = 0; seconds = 0 })).seconds ≡ (get_or b k (record { to = 0; seconds = 0 })).seconds)

-- one hop more is the same
pub same_more : (a b : List Hop) (count : ℕ) → ((k : ℕ) → k < count → HasSameHop a b k) → HasSameHop a b count → (k : ℕ) → k < count + 1 → HasSameHop a b k
same_more a b count so_far here k lt = elim (cases_eq k count) [
  | inl e ↦ subst (λ x. HasSameHop a b x) (sym e) here
  | inr ne ↦ so_far k (omega (arith, lt, ne))
]

-- where all hops are the same, the lists are
pub same_all : (a b : List Hop) (count : ℕ) → length a ≡ length b → length a ≤ count → ((k : ℕ) → k < count → HasSameHop a b k) → a ≡ b
same_all a b count long all so_far = same_lists a b long (λ k d lt.
    let here = so_far k (omega (arith, lt, all)) in
    get_or_default a k d none lt ∙ hop_is (get_or a k none) (get_or b k none) here.0 here.1 ∙ get_or_default b k none d (omega (arith, lt, long)))
  where
    none : Hop
    none = record { to = 0; seconds = 0 }

-- an arc of one network is one of the other
arc_carried : (arcs others : List Arc) (n : ℕ) → All (IsArcAmong n) arcs
    → ((node : ℕ) → node < n → map hop_of (leaving node arcs) ≡ map hop_of (leaving node others)) → (arc : Arc) → Contains arcs arc → Contains others arc
arc_carried arcs others n among same arc here =
    let inside : arc.from < n = (All-contains (IsArcAmong n) arcs arc among here).0 in
    let at = hop_of_arc arcs arc.from arc here refl in
    let lists : map hop_of (leaving arc.from arcs) ≡ map hop_of (leaving arc.from others) = same arc.from inside in
    let within : at.0 < length (map hop_of (leaving arc.from others)) = subst (λ hops. at.0 < length hops) lists at.1 in
    let read : get_or (map hop_of (leaving arc.from others)) at.0 (hop_of arc) ≡ hop_of arc = subst (λ hops. get_or hops at.0 (hop_of arc) ≡ hop_of arc)
    lists (at.2 (hop_of arc)) in
    let found = arc_of_hop others arc.from at.0 (hop_of arc) within read in
    let is : found.0 ≡ arc = arc_is found.0 arc found.2 (ap (λ (h : Hop). h.to) found.3) (ap (λ (h : Hop). h.seconds) found.3) in
    subst (λ (a : Arc). Contains others a) is found.1

-- a walk of one network is one of the other
walk_carried : (arcs others : List Arc) → ((arc : Arc) → Contains arcs arc → Contains others arc) → (walk : List Arc) (start goal : ℕ)
    → IsWalk arcs start walk goal → IsWalk others start walk goal
walk_carried arcs others carry [] start goal walks = walks
walk_carried arcs others carry (first ∷ rest) start goal walks = (carry first walks.0, walks.1, walk_carried arcs others carry rest first.to goal walks.2)

-- a travel time of one network is one of the other
pub time_carried : (arcs others : List Arc) (n : ℕ) → All (IsArcAmong n) arcs → All (IsArcAmong n) others
    → ((node : ℕ) → node < n → map hop_of (leaving node arcs) ≡ map hop_of (leaving node others))
    → (start goal seconds : ℕ) → IsTimeBetween arcs start goal seconds → IsTimeBetween others start goal seconds
time_carried arcs others n among among' same start goal seconds time =
    let there = arc_carried arcs others n among same in
    let back = arc_carried others arcs n among' (λ node lt. sym (same node lt)) in
    elim time [
      | inl least ↦ inl (record {
        walk = least.walk;
        walks = walk_carried arcs others there least.walk start goal least.walks;
        takes = least.takes;
        least = λ other walks. least.least other (walk_carried others arcs back other start goal walks);
      })
      | inr none ↦ inr (λ walk walks. none.0 walk (walk_carried others arcs back walk start goal walks), none.1)
    ]
