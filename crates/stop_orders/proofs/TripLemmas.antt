use Rattle.std.proofs.lemmas.Bool.Decides.{nat_tests}
use Rattle.std.proofs.Common.{
  ◌≡◌,
  ℕ,
  zero,
  suc,
  ◌+◌,
  ◌*◌,
  ◌<◌,
  ◌≤◌,
  List,
  [],
  ◌∷◌,
  ◌++◌,
  length,
  map,
  get_or,
  take,
  drop,
  refl,
  sym,
  ap,
  ◌∙◌,
  subst,
  arith,
  inl,
  inr,
  ◌⊎◌,
  All,
  remove,
  rules,
}
use Rattle.stop_orders.proofs.Common.{
  AllByRecursion,
  false≢true,
  map-append,
  take-map,
  drop-map,
  length-map,
  get_or-map,
  nil_from_length,
  length-remove,
  IsTravelTime,
  Task,
  Stop,
  Pick,
  Drop,
  Alight,
  Visit,
  Pickup,
  Dropoff,
  IsKnown,
  IsOrder,
  latest_of,
  lateness,
  ServesFrom,
  delay_from,
  no_leg,
  leg_at,
  IsTask,
  IsServable,
  IsLeastDelay,
  visit_at,
  visits_of,
  free_seats,
  Serves,
  order_delay,
  IsNextStop,
  no_vehicle,
  no_rider,
  vehicle_at,
  rider_at,
  trip_task,
  pair_task,
  greatest,
  IsTrip,
  IsRrEdge,
  without_rider,
  without_passenger,
  stops_without_rider,
  stops_without_passenger,
  StillServes,
}
use Rattle.stop_orders.specs.declared.task.settled.Settled.{Settled}
use Rattle.stop_orders.specs.declared.task.settled_vehicle.SettledVehicle.{SettledVehicle}
use Rattle.stop_orders.specs.task.Sound.{IsShort, IsSound}
use Rattle.stop_orders.proofs.lemmas.task.ClockLemmas.{soon_there, ServesFrom-soon}
use Rattle.stop_orders.proofs.lemmas.task.DoneLemmas.{has-none, Completes-none, Completes-front}
use Rattle.stop_orders.proofs.lemmas.search.ScanLemmas.{order_short}
use Rattle.stop_orders.proofs.lemmas.task.DeletionLemmas.{rider_left_out, passenger_left_out}

map-remove : {X Y : Type 0} (f : X → Y) (xs : List X) (i : ℕ) → map f (remove xs i) ≡ remove (map f xs) i
map-remove f xs i = map-append f (take i xs) (drop (suc i) xs) ∙ ap (λ ys. ys ++ map f (drop (suc i) xs)) (sym (take-map f i xs)) ∙
    ap (λ ys. take i (map f xs) ++ ys) (sym (drop-map f (suc i) xs))

-- the task of a trip without its i-th rider
trip_task-remove : (settled : Settled) (v : ℕ) (trip : List ℕ) (i : ℕ) → trip_task settled v (remove trip i) ≡ without_rider i (trip_task settled v trip)
trip_task-remove settled v trip i = ap (λ legs. record (trip_task settled v trip) { riders = record { items = legs } })
    (map-remove (λ r. (rider_at settled r).leg) trip i)

module _ (k points : ℕ) (tau : ℕ → ℕ → ℕ) (settled : Settled) (t : IsTravelTime points tau) (sound : IsSound k points tau settled) (v : ℕ)
    (vehicle : v < length settled.vehicles) where
  module _ (trip : List ℕ) (riders : IsTrip (length settled.riders) trip) (few : length trip ≤ 6) (i : ℕ) (within : i < length trip) where
    trip_within : i < length (map (λ r. (rider_at settled r).leg) trip)
    trip_within = omega (arith, length-map trip (λ r. (rider_at settled r).leg))

    sub_trip : (stops : List Stop) → Serves tau (trip_task settled v trip) stops → StillServes points tau (trip_task settled v trip)
        (trip_task settled v (remove trip i)) stops (stops_without_rider i stops)
    sub_trip stops serves = subst (λ task. StillServes points tau (trip_task settled v trip) task stops (stops_without_rider i stops))
        (sym (trip_task-remove settled v trip i))
        (rider_left_out points (trip_task settled v trip) ((sound.each v vehicle).tasks trip riders few) i trip_within tau t stops serves)

    pub sub_trip_servable : IsServable tau (trip_task settled v trip) → IsServable tau (trip_task settled v (remove trip i))
    sub_trip_servable served = (stops_without_rider i served.0, (sub_trip served.0 served.1).serves)

    pub sub_trip_no_dearer : (cost less : ℕ) → IsLeastDelay tau (trip_task settled v trip) cost → IsLeastDelay tau (trip_task settled v (remove trip i)) less →
        less ≤ cost
    sub_trip_no_dearer cost less all part = grind (arith, nat_tests, (sub_trip all.stops all.serves))

-- the ideal second of a drop-off; of a pickup the latest one
ideal_of : Visit → ℕ
ideal_of v = elim v [ Pickup place latest party ↦ latest | Dropoff place latest ideal party ↦ ideal ]

-- a visit of a settled batch adds at most 7,200 seconds of delay where it is in time
short_late : (v : Visit) (second : ℕ) → (latest_of v ≤ ideal_of v + 7200) → second ≤ latest_of v → lateness v second ≤ 7200
unfolding ideal_of
short_late (Pickup place latest party) second short in_time = omega arith
short_late (Dropoff place latest ideal party) second short in_time = omega arith

short_visit : (task : Task) → All IsShort task.riders.items → All IsShort task.aboard.items → (s : Stop) →
    IsKnown (length task.riders.items) (length task.aboard.items) s → latest_of (visit_at task s) ≤ ideal_of (visit_at task s) + 7200
unfolding ideal_of
short_visit task riders aboard (Pick i) h = omega arith
short_visit task riders aboard (Drop i) h = riders i no_leg h
short_visit task riders aboard (Alight j) h = aboard j no_leg h

delay_short : (tau : ℕ → ℕ → ℕ) (dwell : ℕ) (task : Task) → All IsShort task.riders.items → All IsShort task.aboard.items →
    (stops : List Stop) (place free room : ℕ)
    → AllByRecursion (IsKnown (length task.riders.items) (length task.aboard.items)) stops → ServesFrom tau dwell place free room (visits_of task stops) →
    delay_from tau dwell place free (visits_of task stops) ≤ length stops * 7200
delay_short tau dwell task riders aboard [] place free room known serves = omega arith
delay_short tau dwell task riders aboard (s ∷ stops) place free room known serves = search
    (rules, short_late, short_visit, (delay_short tau dwell task riders aboard stops))

trip_short : (settled : Settled) (trip : List ℕ) → All (λ r. IsShort r.leg) settled.riders → All (λ r. r < length settled.riders) trip →
    All IsShort (map (λ r. (rider_at settled r).leg) trip)
trip_short settled trip short within = λ n d h.
    let b : n < length trip = omega (arith, length-map trip (λ r. (rider_at settled r).leg)) in
    subst (λ leg. IsShort leg) (sym (get_or-map (λ r. (rider_at settled r).leg) trip n 0 d b)) (short (get_or trip n 0) no_rider (within n 0 b))

pub delay_small : (k points : ℕ) (tau : ℕ → ℕ → ℕ) (settled : Settled) (v : ℕ) (trip : List ℕ) (stops : List Stop) → IsSound k points tau settled →
    v < length settled.vehicles → IsTrip (length settled.riders) trip → length trip ≤ 6
    → Serves tau (trip_task settled v trip) stops → order_delay tau (trip_task settled v trip) stops ≤ 158400
delay_small k points tau settled v trip stops sound vehicle riders few serves =
    let task = trip_task settled v trip in
    let valid = (sound.each v vehicle).tasks trip riders few in
    let short = order_short points task stops valid serves.order in
    let bound = delay_short tau task.dwell task (trip_short settled trip sound.short riders.within) (sound.each v vehicle).short stops task.start task.ready
    (free_seats task) serves.order.known serves.in_time in
    omega (arith, short, bound)

-- without its passengers
pub alone : Task → Task
alone task = record task { aboard = record { items = [] } }

-- where a task is served, its riders are served without the passengers
pub served_alone : (points : ℕ) (tau : ℕ → ℕ → ℕ) → IsTravelTime points tau → (n : ℕ) (task : Task) → length task.aboard.items ≡ n → IsTask points task →
    IsServable tau task → IsServable tau (alone task) × IsTask points (alone task)
unfolding alone
served_alone points tau t zero task e valid served = search (rules, nil_from_length)
served_alone points tau t (suc n) task e valid served =
    let within : 0 < length task.aboard.items = omega arith in
    let rest = passenger_left_out points task valid 0 within tau t served.0 served.1 in
    let fewer : length (remove task.aboard.items 0) ≡ n = omega (arith, length-remove task.aboard.items 0 within) in
    served_alone points tau t n (without_passenger 0 task) fewer rest.valid (stops_without_passenger 0 served.0, rest.serves)

-- tasks with the same legs see the same visits
visit_same : (task other : Task) → task.riders.items ≡ other.riders.items → task.aboard.items ≡ other.aboard.items → (s : Stop) →
    visit_at task s ≡ visit_at other s
visit_same task other e f (Pick i) = ap (λ legs. Pickup (leg_at legs i).origin (leg_at legs i).latest_pickup (leg_at legs i).party) e
visit_same task other e f (Drop i) = ap (λ legs. Dropoff (leg_at legs i).destination (leg_at legs i).latest_dropoff (leg_at legs i).ideal (leg_at legs i).party)
    e
visit_same task other e f (Alight j) = ap (λ legs. Dropoff (leg_at legs j).destination (leg_at legs j).latest_dropoff (leg_at legs j).ideal
    (leg_at legs j).party) f

visits_same : (task other : Task) → task.riders.items ≡ other.riders.items → task.aboard.items ≡ other.aboard.items → (stops : List Stop) →
    visits_of task stops ≡ visits_of other stops
visits_same task other e f [] = refl
visits_same task other e f (s ∷ stops) = ap (λ v. v ∷ visits_of task stops) (visit_same task other e f s) ∙
    ap (λ vs. visit_at other s ∷ vs) (visits_same task other e f stops)

greatest-most : (vehicles : List SettledVehicle) (v : ℕ) → v < length vehicles → (get_or vehicles v no_vehicle).seats ≤ greatest (map (λ w. w.seats) vehicles)
greatest-most [] v h = absurd (omega arith)
greatest-most (w ∷ vehicles) zero h = omega arith
greatest-most (w ∷ vehicles) (suc v) h = omega (arith, greatest-most vehicles v (omega arith))

no_pick : (i : ℕ) (rest : List Stop) → [] ≡ Pick i ∷ rest → ⊥
no_pick i rest e = cc

-- what may come first is a pickup
pick_of : (s : Stop) → IsNextStop 2 0 0 s → (i : ℕ) × (i < 2) × (s ≡ Pick i)
pick_of (Pick i) next = (i, next.0, refl)
pick_of (Drop i) next = absurd (false≢true (sym (has-none i) ∙ next.1))
pick_of (Alight j) next = absurd (omega (arith, next.0))

-- an order of two riders and nobody else begins with a pickup
first_pick : (stops : List Stop) → IsOrder 2 0 stops → (i : ℕ) × (rest : List Stop) × (i < 2) × (stops ≡ Pick i ∷ rest)
first_pick [] order = let none : [] ≡ Pick 0 ∷ Drop 0 ∷ [] = order.rides 0 (omega arith) in absurd (no_pick 0 (Drop 0 ∷ []) none)
first_pick (s ∷ rest) order = grind (arith, nat_tests, (pick_of s), (Completes-front 2 0 0), (Completes-none 2 0 (s ∷ rest) order))

module _ (k points : ℕ) (tau : ℕ → ℕ → ℕ) (settled : Settled) (t : IsTravelTime points tau) (sound : IsSound k points tau settled) (v : ℕ)
    (vehicle : v < length settled.vehicles) (a b : ℕ) where
  pub pair_alone : Task
  pair_alone = alone (trip_task settled v (a ∷ b ∷ []))

  -- the empty vehicle at the place of the first pickup serves what follows
  from_first : IsTask points pair_alone → (i : ℕ) (rest : List Stop) → i < 2 → Serves tau pair_alone (Pick i ∷ rest)
      → Serves tau (pair_task settled (leg_at ((rider_at settled a).leg ∷ (rider_at settled b).leg ∷ []) i).origin a b) (Pick i ∷ rest)
  unfolding alone pair_alone
  from_first valid i rest two serves = search (rules, greatest-most, pair_alone, ServesFrom-soon, soon_there, visits_same)

  edge_of : (i : ℕ) (rest : List Stop) → i < 2 → Serves tau (pair_task settled (leg_at ((rider_at settled a).leg ∷ (rider_at settled b).leg ∷ []) i).origin a b)
      (Pick i ∷ rest)
      → IsServable tau (pair_task settled (rider_at settled a).leg.origin a b) ⊎ IsServable tau (pair_task settled (rider_at settled b).leg.origin a b)
  edge_of zero rest two serves = inl (Pick 0 ∷ rest, serves)
  edge_of (suc zero) rest two serves = inr (Pick 1 ∷ rest, serves)
  edge_of (suc (suc i)) rest two serves = absurd (omega arith)

  pub pair_is_edge : IsTrip (length settled.riders) (a ∷ b ∷ []) → IsServable tau (trip_task settled v (a ∷ b ∷ [])) → IsRrEdge tau settled a b
  unfolding alone pair_alone
  pair_is_edge trip served =
      let valid = (sound.each v vehicle).tasks (a ∷ b ∷ []) trip (omega arith) in
      let single = served_alone points tau t (length (vehicle_at settled v).aboard.items) (trip_task settled v (a ∷ b ∷ [])) refl valid served in
      let pick = first_pick single.0.0 single.0.1.order in
      let serves = subst (λ stops. Serves tau pair_alone stops) pick.3 single.0.1 in
      record {
        below = trip.rising 0 (omega arith);
        within = trip.within 1 0 (omega arith);
        servable = edge_of pick.0 pick.1 pick.2 (from_first single.1 pick.0 pick.1 pick.2 serves);
      }
