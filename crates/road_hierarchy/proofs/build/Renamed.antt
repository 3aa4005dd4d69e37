-- Walks and hierarchies of nodes that get other numbers.
use Rattle.std.proofs.Common.{◌≡◌, ℕ, zero, suc, ◌<◌, ◌≤◌, inl, inr, List, [], ◌∷◌, length, get_or, map, Contains, refl, sym, ap, ◌∙◌, subst, arith}
use Rattle.std.proofs.lemmas.List.{get_or-map, length-map}
use Rattle.road_network.specs.declared.arc.Arc.{Arc}
use Rattle.road_network.specs.Walk.{IsWalk, IsTimeBetween, walk_seconds}
use Rattle.road_hierarchy.specs.Hierarchy.{HasWalkWithin, IsWalkOf}
use Rattle.road_hierarchy.specs.work.build.Turns.{renamed}
use Rattle.road_hierarchy.specs.work.sweeps.Sweep.{AreInTurn}
use Rattle.road_hierarchy.proofs.Walks.{seconds-cons, to_kind, from_kind}

module _ (number : ℕ → ℕ) where
  pub among_renamed : (arcs : List Arc) (arc : Arc) → Contains arcs arc → Contains (map (renamed number) arcs) (renamed number arc)
  among_renamed arcs arc (k, within, is) = (
    k,
    (let each : length (map (renamed number) arcs) ≡ length arcs = length-map arcs (renamed number) in omega (arith, each, within)),
    get_or-map (renamed number) arcs k arc (renamed number arc) within ∙ ap (renamed number) is,
  )

  pub arc_behind : (arcs : List Arc) (other : Arc) → Contains (map (renamed number) arcs) other → (arc : Arc) × Contains arcs arc × (renamed number arc ≡ other)
  arc_behind [] other (k, within, is) = absurd (omega (arith, within))
  arc_behind (arc ∷ rest) other (zero, within, is) = (arc, (0, omega arith, refl), is)
  arc_behind (arc ∷ rest) other (suc k, within, is) = let more = arc_behind rest other (k, omega (arith, within), is) in
      (more.0, (suc more.1.0, omega (arith, more.1.1), more.1.2), more.2)

  -- a walk of a kind, renamed
  walk_renamed : (Kind Other : Arc → Type 0) → ((arc : Arc) → Kind arc → Other (renamed number arc)) → (walk : List Arc) (start goal : ℕ)
      → IsWalkOf Kind start walk goal
      → (other : List Arc) × IsWalkOf Other (number start) other (number goal) × (walk_seconds other ≡ walk_seconds walk)
  walk_renamed Kind Other carry [] start goal walks = ([], ap number walks, refl)
  walk_renamed Kind Other carry (arc ∷ rest) start goal walks =
      let more = walk_renamed Kind Other carry rest arc.to goal walks.2 in (
        renamed number arc ∷ more.0,
        (carry arc walks.0, ap number walks.1, more.1),
        omega (arith, more.2, seconds-cons arc rest, seconds-cons (renamed number arc) more.0),
      )

  pub within_renamed : (arcs : List Arc) (a b seconds : ℕ) → HasWalkWithin arcs a b seconds
      → HasWalkWithin (map (renamed number) arcs) (number a) (number b) seconds
  within_renamed arcs a b seconds (walk, walks, short) =
      let other = walk_renamed (Contains arcs) (Contains (map (renamed number) arcs)) (λ arc here. among_renamed arcs arc here) walk a b
      (to_kind arcs walk a b walks) in
      (other.0, from_kind (map (renamed number) arcs) other.0 (number a) (number b) other.1, omega (arith, other.2, short))

  -- a walk between new numbers is one between the nodes
  pub walk_behind : (arcs : List Arc) → ((x y : ℕ) → number x ≡ number y → x ≡ y) → (other : List Arc) (start goal : ℕ)
      → IsWalk (map (renamed number) arcs) (number start) other (number goal)
      → (walk : List Arc) × IsWalk arcs start walk goal × (walk_seconds walk ≡ walk_seconds other)
  walk_behind arcs once [] start goal walks = ([], once start goal walks, refl)
  walk_behind arcs once (first ∷ rest) start goal walks =
      let b = arc_behind arcs first walks.0 in
      let to_is : number b.0.to ≡ first.to = ap (λ (a : Arc). a.to) b.2 in
      let more = walk_behind arcs once rest b.0.to goal (subst (λ x. IsWalk (map (renamed number) arcs) x rest (number goal)) (sym to_is) walks.2) in (
        b.0 ∷ more.0,
        (b.1, once b.0.from start (ap (λ (a : Arc). a.from) b.2 ∙ walks.1), more.1),
        omega (arith, more.2, ap (λ (a : Arc). a.seconds) b.2, seconds-cons b.0 more.0, seconds-cons first rest),
      )

  -- travel times are those between the new numbers
  pub time_renamed : (arcs : List Arc) (a b seconds : ℕ) → ((x y : ℕ) → number x ≡ number y → x ≡ y)
      → IsTimeBetween (map (renamed number) arcs) (number a) (number b) seconds → IsTimeBetween arcs a b seconds
  time_renamed arcs a b seconds once (inl least) =
      let walk = walk_behind arcs once least.walk a b least.walks in
      inl (record {
        walk = walk.0;
        walks = walk.1;
        takes = walk.2 ∙ least.takes;
        least = λ other walks. let there = within_renamed arcs a b (walk_seconds other) (other, walks, omega arith) in
            omega (arith, there.2, least.least there.0 there.1);
      })
  time_renamed arcs a b seconds once (inr none) = inr (
    λ walk walks. (let there = within_renamed arcs a b (walk_seconds walk) (walk, walks, omega arith) in
        none.0 there.0 there.1),
    none.1,
  )

-- arcs up by the order of their starts, and arcs down from the last of their ends, are in turn
pub ups_in_turn : (arcs : List Arc) → ((i j : ℕ) (d : Arc) → i ≤ j → j < length arcs → (get_or arcs i d).from ≤ (get_or arcs j d).from)
    → ((j : ℕ) (d : Arc) → j < length arcs → (get_or arcs j d).from < (get_or arcs j d).to) → AreInTurn arcs
ups_in_turn arcs sorted up i j d le inside e = omega (arith, e, sorted i j d le inside, up j d inside)

pub downs_in_turn : (arcs : List Arc) → ((i j : ℕ) (d : Arc) → i ≤ j → j < length arcs → (get_or arcs j d).to ≤ (get_or arcs i d).to)
    → ((j : ℕ) (d : Arc) → j < length arcs → (get_or arcs j d).to < (get_or arcs j d).from) → AreInTurn arcs
downs_in_turn arcs sorted down i j d le inside e = omega (arith, e, sorted i j d le inside, down i d (omega (arith, le, inside)))
