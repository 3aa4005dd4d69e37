use Rattle.std.proofs.Common.{
  rules,
  ◌≡◌,
  ℕ,
  zero,
  suc,
  ⊎_elim,
  inr,
  Option,
  Some,
  None,
  ◌<◌,
  ◌≤◌,
  min,
  List,
  [],
  ◌∷◌,
  length,
  map,
  get_or,
  refl,
  sym,
  ap,
  ◌∙◌,
  subst,
  arith,
  eqb,
  Bool,
  true,
  false,
}
use Rattle.trip_graph.proofs.Common.{
  get_or_default,
  All-nil,
  Settled,
  Task,
  IsTask,
  IsLeg,
  IsServable,
  IsLeastDelay,
  Serves,
  no_leg,
  IsTrip,
  IsRrEdge,
  pair_task,
  trip_task,
  IsRvEdge,
  rider_at,
  no_rider,
  no_vehicle,
  greatest,
}
use Rattle.std.proofs.lemmas.Bool.Decides.{nat_tests, Decides-eqb}
use Rattle.stop_orders.specs.declared.task.stop.Stop.{Stop}
use Rattle.stop_orders.specs.declared.task.stop.Stop.TheVariants.{Pick, Drop, Alight}
use Rattle.stop_orders.specs.declared.task.settled_vehicle.SettledVehicle.{SettledVehicle}
use Rattle.stop_orders.specs.declared.task.settled_rider.SettledRider.{SettledRider}
use Rattle.std.specs.Bool.{MatchBool}
use Rattle.std.specs.Option.{IfSome, IfNone, is_some}
use Rattle.stop_orders.specs.task.Order.{IsOrder}
use Rattle.stop_orders.specs.task.Sound.{IsSound}
use Rattle.trip_graph.specs.work.pairs.RrGraph.{IsTaskOfFirst}

-- what is read of a rider is what stands at its number
pub rider_read : (settled : Settled) (riders : List SettledRider) (r : ℕ) (x : SettledRider) → riders ≡ settled.riders → r < length settled.riders →
    get_or riders r x ≡ rider_at settled r
rider_read settled riders r x e h = ap (λ (v : List SettledRider). get_or v r x) e ∙ get_or_default settled.riders r x no_rider h

self_eq : (i : ℕ) → eqb i i ≡ true
self_eq i = (Decides-eqb i i).1 refl

-- an order without passengers begins with a pickup
first_is_pick : (riders : ℕ) (s : Stop) (ss : List Stop) → IsOrder riders 0 (s ∷ ss) → (i : ℕ) × (i < riders) × (s ≡ Pick i)
first_is_pick riders (Pick i) ss o = (i, o.known.0, refl)
first_is_pick riders (Drop i) ss o = grind (arith, nat_tests, (self_eq i))
first_is_pick riders (Alight j) ss o = absurd (let h = o.known.0 in omega arith)

never_empty : (riders : ℕ) → 0 < riders → IsOrder riders 0 [] → ⊥
never_empty riders h o = let e = o.rides 0 h in absurd (cc)

-- an empty vehicle that serves two riders has seats for the smaller party
pub pair_needs_seats : (tau : ℕ → ℕ → ℕ) (settled : Settled) (place a b : ℕ) → IsServable tau (pair_task settled place a b)
    → min (rider_at settled a).leg.party (rider_at settled b).leg.party ≤ settled.most_seats
pair_needs_seats tau settled place a b (stops, s) = by_stops stops s
  where
    by_pick : (i : ℕ) (ss : List Stop) → i < 2 → Serves tau (pair_task settled place a b) (Pick i ∷ ss)
        → min (rider_at settled a).leg.party (rider_at settled b).leg.party ≤ settled.most_seats
    by_pick zero ss h s = let seats = s.in_time.2 in omega arith
    by_pick (suc zero) ss h s = let seats = s.in_time.2 in omega arith
    by_pick (suc (suc i)) ss h s = absurd (omega arith)

    by_stops : (stops : List Stop) → Serves tau (pair_task settled place a b) stops
        → min (rider_at settled a).leg.party (rider_at settled b).leg.party ≤ settled.most_seats
    by_stops [] s = absurd (never_empty 2 (omega arith) s.order)
    by_stops (x ∷ xs) s =
        let p = first_is_pick 2 x xs s.order in
        by_pick p.0 xs p.1 (subst (λ (v : Stop). Serves tau (pair_task settled place a b) (v ∷ xs)) p.2 s)

greatest_least : (most : ℕ) (vs : List SettledVehicle) → ((v : ℕ) → v < length vs → (get_or vs v no_vehicle).seats ≤ most) →
    greatest (map (λ v. v.seats) vs) ≤ most
greatest_least most [] h = omega arith
greatest_least most (x ∷ xs) h =
    let first = h 0 (omega arith) in
    let rest = greatest_least most xs (λ v lt. h (suc v) (omega arith)) in omega arith

some_vehicle : (vs : List SettledVehicle) → 0 < greatest (map (λ v. v.seats) vs) → 0 < length vs
some_vehicle [] h = h
some_vehicle (x ∷ xs) h = omega arith

two_trip : (riders a b : ℕ) → a < b → b < riders → IsTrip riders (a ∷ b ∷ [])
two_trip riders a b h k = search rules

-- the task of a pair is valid, from a place that is one of the two origins
pub pair_valid : (points : ℕ) (tau : ℕ → ℕ → ℕ) (settled : Settled) (place a b : ℕ) → IsSound 6 points tau settled → a < b → b < length settled.riders
    → 0 < settled.most_seats → place < points → IsTask points (pair_task settled place a b)
pair_valid points tau settled place a b sound h k seats there =
    let some : 0 < length settled.vehicles = some_vehicle settled.vehicles (subst (λ (v : ℕ). 0 < v) sound.most_seats seats) in
    let trip = two_trip (length settled.riders) a b h k in
    let task = (sound.each 0 some).tasks (a ∷ b ∷ []) trip (omega arith) in
    let none : IsTrip (length settled.riders) [] = record { rising = λ i lt. absurd (omega arith); within = λ i d lt. absurd (omega arith) } in
    record {
      start = there;
      ready = sound.now;
      dwell = task.dwell;
      seats = subst (λ (v : ℕ). v ≤ 10) (sym sound.most_seats) (greatest_least 10 settled.vehicles
          (λ v lt. ((sound.each v lt).tasks [] none (omega arith)).seats));
      seated = omega arith;
      passenger_count = omega arith;
      rider_count = omega arith;
      passengers = All-nil (IsLeg points);
      riders = task.riders;
    }

-- the task of a pair stays one wherever its vehicle is put
pub put_at : (settled : Settled) (task : Task) (place a b : ℕ) → task ≡ pair_task settled task.start a b →
    record task { start = place } ≡ pair_task settled place a b
put_at settled task place a b is = ap (λ (t : Task). record t { start = place }) is

-- .. and is a task of the pair then
pub stays_pair : (settled : Settled) (task next : Task) (place a b : ℕ) → task ≡ pair_task settled task.start a b → next ≡ record task { start = place }
    → next ≡ pair_task settled next.start a b
stays_pair settled task next place a b is moved =
    subst (λ (t : Task). t ≡ pair_task settled t.start a b) (sym moved) (put_at settled task place a b is)

-- the task of a pair is one of its first rider
pub task_of_first : (settled : Settled) (task : Task) (a b : ℕ) → task ≡ pair_task settled task.start a b → IsTaskOfFirst settled a task
task_of_first settled task a b is = record { rest = (rider_at settled b).leg ∷ []; is = is }

-- the origins of two riders are places of the table
pub origins_within : (points : ℕ) (tau : ℕ → ℕ → ℕ) (settled : Settled) (a b : ℕ) → IsSound 6 points tau settled → a < b → b < length settled.riders
    → 0 < settled.most_seats → ((rider_at settled a).leg.origin < points) × ((rider_at settled b).leg.origin < points)
origins_within points tau settled a b sound h k seats =
    let some : 0 < length settled.vehicles = some_vehicle settled.vehicles (subst (λ (v : ℕ). 0 < v) sound.most_seats seats) in
    let task = (sound.each 0 some).tasks (a ∷ b ∷ []) (two_trip (length settled.riders) a b h k) (omega arith) in
    ((task.riders 0 no_leg (omega arith)).origin, (task.riders 1 no_leg (omega arith)).origin)

-- neither start serves the two: they are no edge
pub no_edge_from : (tau : ℕ → ℕ → ℕ) (settled : Settled) (a b : ℕ) → (IsServable tau (pair_task settled (rider_at settled a).leg.origin a b) → ⊥)
    → (IsServable tau (pair_task settled (rider_at settled b).leg.origin a b) → ⊥) → IsRrEdge tau settled a b → ⊥
no_edge_from tau settled a b left right e = ⊎_elim left right e.servable

pub one_trip : (riders r : ℕ) → r < riders → IsTrip riders (r ∷ [])
one_trip riders r h = search rules

-- the answer of a search says whether some order serves
pub found_serves : (tau : ℕ → ℕ → ℕ) (task other : Task) (found : Option ℕ) (answer : Bool) → task ≡ other → answer ≡ is_some found
    → IfSome found (IsLeastDelay tau task) → IfNone found (IsServable tau task → ⊥)
    → MatchBool answer (IsServable tau other) (IsServable tau other → ⊥)
found_serves tau task other None answer same is least none = rw is (λ s. none (subst (IsServable tau) (sym same) s))
found_serves tau task other (Some cost) answer same is least none = rw is (subst (IsServable tau) same (least.stops, least.serves))

-- the same of an edge between a vehicle and a rider
pub rv_answer : (tau : ℕ → ℕ → ℕ) (settled : Settled) (v r : ℕ) (answer : Bool) → v < length settled.vehicles → r < length settled.riders
    → MatchBool answer (IsServable tau (trip_task settled v (r ∷ []))) (IsServable tau (trip_task settled v (r ∷ [])) → ⊥)
    → MatchBool answer (IsRvEdge tau settled v r) (IsRvEdge tau settled v r → ⊥)
rv_answer tau settled v r true h k s = record { vehicle = h; riders = one_trip (length settled.riders) r k; size = omega arith; servable = s }
rv_answer tau settled v r false h k never = λ e. never e.servable

-- the same of the second start, where the first serves no order
pub rr_answer : (tau : ℕ → ℕ → ℕ) (settled : Settled) (a b : ℕ) (answer : Bool) → a < b → b < length settled.riders
    → (IsServable tau (pair_task settled (rider_at settled a).leg.origin a b) → ⊥)
    → MatchBool answer (IsServable tau (pair_task settled (rider_at settled b).leg.origin a b))
    (IsServable tau (pair_task settled (rider_at settled b).leg.origin a b) → ⊥)
    → MatchBool answer (IsRrEdge tau settled a b) (IsRrEdge tau settled a b → ⊥)
rr_answer tau settled a b true h k never s = record { below = h; within = k; servable = inr s }
rr_answer tau settled a b false h k never no_order = no_edge_from tau settled a b never no_order
