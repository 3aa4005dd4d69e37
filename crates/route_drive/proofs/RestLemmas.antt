-- The suffix law: what remains of a serving order serves.
use Rattle.std.proofs.Common.{
  ◌≡◌,
  ℕ,
  suc,
  ◌+◌,
  ◌<◌,
  ◌≤◌,
  Bool,
  true,
  false,
  eqb,
  List,
  [],
  ◌∷◌,
  ◌++◌,
  length,
  map,
  filter,
  drop,
  refl,
  sym,
  ap,
  ◌∙◌,
  subst,
  arith,
  inl,
  inr,
  length-append,
  All,
  remove,
  not,
  rules,
}
use Rattle.route_drive.proofs.Common.{
  AllByRecursion,
  cases_lt,
  cond-true,
  cond-false,
  false≢true,
  get_or_append_left,
  get_or-append_seam,
  All-append,
  All-cons,
  All-nil,
  sum_by_push,
  sum_by-cons,
  longest,
  Leg,
  Task,
  Stop,
  Pick,
  Drop,
  Alight,
  Visit,
  is_of_rider,
  is_of_passenger,
  IsKnown,
  place_of,
  boarding_of,
  room_after,
  ServesFrom,
  seconds_from,
  no_leg,
  leg_at,
  persons,
  IsLeg,
  IsTask,
  visit_at,
  visits_of,
  free_seats,
  IsOrderOf,
  Serves,
  seconds_of,
  eq-eqb,
  ne_eqb,
  not_from_false,
  not_from_true,
  map-map,
  nat_tests,
}
use Rattle.std.proofs.lemmas.List.Edits.{length-remove}
use Rattle.stop_orders.specs.declared.task.visit.Visit.TheVariants.{Pickup, Dropoff}
use Rattle.stop_orders.specs.Laws.{number_without, stop_without_passenger, without_passenger}
use Rattle.stop_orders.proofs.lemmas.task.DeletionLemmas.{
  old_number,
  not_same,
  renumbered,
  renumbered_back,
  old_number-ne,
  old_number-lt,
  number_without-lt,
  leg_without,
  All-remove,
  order_without_passenger,
  persons_without,
  valid_without_passenger,
  visit_without_passenger,
  visits_renumbered,
}
use Rattle.route_drive.proofs.kept.Lists.{all_mapped, both, filter_all, filter_filter, filter_renamed, map_agrees, skips, takes}
use Rattle.route_drive.specs.Rest.{task_after, stop_after, rest_of, MeetsNext, RestServes}

-- what holds of all that a filter keeps, and of all that it doesn't, holds of all
all_of_filter : (P : Stop → Type 0) (p : Stop → Bool) (xs : List Stop) → AllByRecursion P (filter p xs) → ((x : Stop) → p x ≡ false → P x) → AllByRecursion P xs
all_of_filter P p [] kept others = tt
all_of_filter P p (x ∷ xs) kept others =
    let rest : AllByRecursion P (filter p xs) → AllByRecursion P xs = λ all. all_of_filter P p xs all others in
    grind (arith, nat_tests, others x)

-- what a task keeps after its first stop
record Onward (points : ℕ) (task : Task) (stop : Stop) (stops : List Stop) : Type 0 where
  valid : IsTask points (task_after stop task)
  order : IsOrderOf (task_after stop task) (map (stop_after stop (length task.aboard.items)) stops)
  visits : visits_of (task_after stop task) (map (stop_after stop (length task.aboard.items)) stops) ≡ visits_of task stops
  room : free_seats (task_after stop task) ≡ room_after (visit_at task stop) (free_seats task)

-- a passenger gets out
got_out : (points : ℕ) (task : Task) (j : ℕ) (stops : List Stop) → IsTask points task → IsOrderOf task (Alight j ∷ stops) → Onward points task (Alight j) stops
got_out points task j stops valid order =
    let within : j < length task.aboard.items = order.known.0 in
    record {
      valid = valid_without_passenger points task valid j within;
      order = subst (λ ss. IsOrderOf (without_passenger j task) (map (stop_without_passenger j) ss))
          (skips (λ s. not (is_of_passenger j s)) (Alight j) stops (not_from_true (is_of_passenger j (Alight j)) (eq-eqb j j refl)) ∙ all_left)
          (order_without_passenger points task valid j within (Alight j ∷ stops) order);
      visits = subst (λ ss. map (visit_at (without_passenger j task)) (map (stop_without_passenger j) ss) ≡ map (visit_at task) ss) all_left
          (visits_renumbered (visit_at (without_passenger j task)) (visit_at task) (stop_without_passenger j) (is_of_passenger j)
          (visit_without_passenger points task valid j within) stops);
      room = omega (arith, persons_without points task valid j within, valid.seated);
    }
  where
    -- nobody else is this passenger
    nobody : filter (is_of_passenger j) stops ≡ []
    nobody = grind (arith, nat_tests, order.alights j order.known.0)

    all_left : filter (λ s. not (is_of_passenger j s)) stops ≡ stops
    all_left = filter_all (λ s. not (is_of_passenger j s)) stops (all_of_filter (λ s. not (is_of_passenger j s) ≡ true) (is_of_passenger j) stops
        (subst (AllByRecursion (λ s. not (is_of_passenger j s) ≡ true)) (sym nobody) tt) (λ x e. not_from_false (is_of_passenger j x) e))

-- whether the rider is picked up, or dropped, at a stop
picks : ℕ → Stop → Bool
picks i stop = elim stop [ Pick k ↦ eqb k i | Drop k ↦ false | Alight k ↦ false ]

drops : ℕ → Stop → Bool
drops i stop = elim stop [ Pick k ↦ false | Drop k ↦ eqb k i | Alight k ↦ false ]

-- there are at least as many persons as legs
persons-least : (points : ℕ) (legs : List Leg) → All (IsLeg points) legs → length legs ≤ persons legs
persons-least points [] all = omega arith
persons-least points (leg ∷ legs) all =
    omega (
      arith,
      (all 0 leg (omega arith)).someone,
      persons-least points legs (λ k d h. all (suc k) d (omega arith)),
      sum_by-cons (λ (l : Leg). l.party) leg
          legs,
    )

-- a rider gets in
module _ (points : ℕ) (task : Task) (valid : IsTask points task) (i : ℕ) (stops : List Stop) (order : IsOrderOf task (Pick i ∷ stops))
    (boards : (leg_at task.riders.items i).party ≤ free_seats task) where
  P : ℕ
  P = length task.aboard.items

  among : i < length task.riders.items
  among = order.known.0

  less : length (remove task.riders.items i) + 1 ≡ length task.riders.items
  less = length-remove task.riders.items i among

  abbrev aboard' : List Leg
  aboard' = task.aboard.items ++ leg_at task.riders.items i ∷ []

  more : length aboard' ≡ length task.aboard.items + 1
  more = length-append task.aboard.items (leg_at task.riders.items i ∷ [])

  persons_more : persons aboard' ≡ persons task.aboard.items + (leg_at task.riders.items i).party
  persons_more = sum_by_push (λ (l : Leg). l.party) task.aboard.items (leg_at task.riders.items i)

  abbrev After : Stop → Type 0
  After s = IsKnown (length task.riders.items) (length task.aboard.items) s × (picks i s ≡ false)

  abbrev g : Stop → Stop
  g = stop_after (Pick i) (length task.aboard.items)

  own_drop : filter (is_of_rider i) stops ≡ Drop i ∷ []
  own_drop = grind (arith, nat_tests, order.rides i among)

  not_picked : (x : Stop) → is_of_rider i x ≡ false → picks i x ≡ false
  unfolding picks
  not_picked (Pick k) e = e
  not_picked s e = refl

  after : AllByRecursion After stops
  unfolding picks
  after = both (IsKnown (length task.riders.items) (length task.aboard.items)) (λ s. picks i s ≡ false) stops order.known.1
      (all_of_filter (λ s. picks i s ≡ false) (is_of_rider i) stops (subst (λ ss. AllByRecursion (λ s. picks i s ≡ false) ss) (sym own_drop) (refl, tt))
      (λ x e. not_picked x e))

  renamed_ne : (k : ℕ) → eqb k i ≡ false → g (Drop k) ≡ Drop (number_without i k)
  renamed_ne k e = cond-false (eqb k i) (Alight (length task.aboard.items)) (Drop (number_without i k)) e

  renamed_own : (k : ℕ) → eqb k i ≡ true → g (Drop k) ≡ Alight (length task.aboard.items)
  renamed_own k e = cond-true (eqb k i) (Alight (length task.aboard.items)) (Drop (number_without i k)) e

  picked_visit : (s : Stop) → After s → visit_at (task_after (Pick i) task) (g s) ≡ visit_at task s
  unfolding picks
  picked_visit (Pick k) h = ap (λ leg. Pickup leg.origin leg.latest_pickup leg.party) (leg_without task.riders.items i k among (not_same k i h.1))
  picked_visit (Drop k) h = grind (
    arith,
    nat_tests,
    renamed_own k,
    renamed_ne k,
    get_or-append_seam task.aboard.items (leg_at task.riders.items i) [] no_leg,
    leg_without task.riders.items i k among,
  )
  picked_visit (Alight k) h = ap (λ leg. Dropoff leg.destination leg.latest_dropoff leg.ideal leg.party)
      (get_or_append_left task.aboard.items (leg_at task.riders.items i ∷ []) no_leg k h.0)

  rider_tests : (k : ℕ) (s : Stop) → After s → is_of_rider k (g s) ≡ is_of_rider (old_number i k) s
  unfolding picks
  rider_tests k (Pick n) h = renumbered i k n (not_same n i h.1)
  rider_tests k (Drop n) h = grind (arith, nat_tests, renamed_own n, renamed_ne n, old_number-ne i k, renumbered i k n)
  rider_tests k (Alight n) h = refl

  passenger_tests : (k : ℕ) → k < length task.aboard.items → (s : Stop) → After s → is_of_passenger k (g s) ≡ is_of_passenger k s
  passenger_tests k lt (Drop n) h = grind (arith, nat_tests, renamed_own n, renamed_ne n)
  passenger_tests k lt s h = refl

  last_tests : (s : Stop) → After s → is_of_passenger (length task.aboard.items) (g s) ≡ drops i s
  unfolding drops
  last_tests (Pick n) h = refl
  last_tests (Drop n) h = grind (arith, nat_tests, renamed_own n, renamed_ne n)
  last_tests (Alight n) h = let lt : n < length task.aboard.items = h.0 in ne_eqb n (length task.aboard.items) (λ q. omega arith)

  is_drop : (s : Stop) → drops i s ≡ true → is_of_rider i s ≡ true
  unfolding drops
  is_drop (Drop n) e = e
  is_drop s e = absurd (false≢true e)

  the_drop : filter (drops i) stops ≡ Drop i ∷ []
  unfolding drops
  the_drop = sym (filter_filter (drops i) (is_of_rider i) is_drop stops) ∙ ap (filter (drops i)) own_drop ∙ takes (drops i) (Drop i) [] (eq-eqb i i refl)

  picked_known : (s : Stop) → After s → IsKnown (length (remove task.riders.items i)) (length aboard') (g s)
  unfolding picks
  picked_known (Pick k) h = number_without-lt i k (length task.riders.items) (length (remove task.riders.items i)) among less (not_same k i h.1) h.0
  picked_known (Drop k) h = grind (
    arith,
    nat_tests,
    renamed_own k,
    renamed_ne k,
    more,
    number_without-lt i k (length task.riders.items)
        (length (remove task.riders.items i)) among less,
    h.0,
  )
  picked_known (Alight k) h = let lt : k < length task.aboard.items = h.0 in let q = more in omega (arith, q)

  picked_rides : (k : ℕ) → k < length (remove task.riders.items i) → filter (is_of_rider k) (map g stops) ≡ Pick k ∷ Drop k ∷ []
  picked_rides k h =
      let theirs : filter (is_of_rider (old_number i k)) stops ≡ Pick (old_number i k) ∷ Drop (old_number i k) ∷ [] =
      sym (skips (is_of_rider (old_number i k)) (Pick i) stops (old_number-ne i k)) ∙ order.rides (old_number i k)
      (old_number-lt i k (length task.riders.items) (length (remove task.riders.items i)) among less h) in
      filter_renamed (is_of_rider k) (is_of_rider (old_number i k)) g After (rider_tests k) stops after
      ∙ ap (map g) theirs
      ∙ ap (λ d. Pick (number_without i (old_number i k)) ∷ d ∷ []) (renamed_ne (old_number i k)
      (ne_eqb (old_number i k) i (λ q. not_same i (old_number i k) (old_number-ne i k) (sym q))))
      ∙ ap (λ n. Pick n ∷ Drop n ∷ []) (renumbered_back i k)

  picked_alights : (k : ℕ) → k < length aboard' → filter (is_of_passenger k) (map g stops) ≡ Alight k ∷ []
  picked_alights k h =
      elim (cases_lt k (length task.aboard.items)) [
        | inl lt ↦
            filter_renamed (is_of_passenger k) (is_of_passenger k) g After (passenger_tests k lt) stops after
            ∙ ap (map g) (sym (skips (is_of_passenger k) (Pick i) stops refl) ∙ order.alights k lt)
        | inr ge ↦
            let e : k ≡ length task.aboard.items = omega (arith, more) in
            subst (λ n. filter (is_of_passenger n) (map g stops) ≡ Alight n ∷ []) (sym e)
            (filter_renamed (is_of_passenger (length task.aboard.items)) (drops i) g After last_tests stops after
            ∙ ap (map g) the_drop
            ∙ ap (λ s. s ∷ []) (renamed_own i (eq-eqb i i refl)))
      ]

  got_in : Onward points task (Pick i) stops
  got_in =
      let a = more in
      let fits : persons aboard' ≤ task.seats = omega (arith, persons_more, boards, valid.seated) in
      let all : All (IsLeg points) aboard' = All-append (IsLeg points) task.aboard.items (leg_at task.riders.items i ∷ []) valid.passengers
      (All-cons (IsLeg points) (leg_at task.riders.items i) [] (valid.riders i no_leg among) (All-nil (IsLeg points))) in
      record {
        valid = record {
          start = valid.start;
          ready = valid.ready;
          dwell = valid.dwell;
          seats = valid.seats;
          seated = fits;
          passenger_count = omega (arith, persons-least points aboard' all, fits, valid.seats);
          rider_count = omega (arith, less, valid.rider_count);
          passengers = all;
          riders = All-remove (IsLeg points) task.riders.items i valid.riders;
        };
        order = record {
          rides = picked_rides;
          alights = picked_alights;
          known = all_mapped After (IsKnown (length (remove task.riders.items i)) (length aboard')) g picked_known stops after;
        };
        visits = map-map (visit_at (task_after (Pick i) task)) g stops ∙ map_agrees (λ s. visit_at (task_after (Pick i) task) (g s)) (visit_at task) After
            picked_visit stops after;
        room = omega (arith, persons_more);
      }

-- one stop on
onward : (points : ℕ) (task : Task) (stop : Stop) (stops : List Stop) → IsTask points task → IsOrderOf task (stop ∷ stops) →
    boarding_of (visit_at task stop) ≤ free_seats task → Onward points task stop stops
onward points task (Pick i) stops valid order boards = got_in points task valid i stops order boards
onward points task (Drop i) stops valid order boards = grind (arith, nat_tests, order.rides i order.known.0)
onward points task (Alight j) stops valid order boards = got_out points task j stops valid order

-- what remains, from the place and the second of the last stop that is done
record GoesOn (points : ℕ) (tau : ℕ → ℕ → ℕ) (dwell : ℕ) (visits : List Visit) (seconds : List ℕ) (rest : Task × List Stop) : Type 0 where
  valid : IsTask points rest.0
  order : IsOrderOf rest.0 rest.1
  visits_are : visits_of rest.0 rest.1 ≡ visits
  dwell_is : rest.0.dwell ≡ dwell
  place : ℕ
  free : ℕ
  serves : ServesFrom tau dwell place free (free_seats rest.0) visits
  seconds_are : seconds_from tau dwell place free visits ≡ seconds

same_dwell : (stop : Stop) (task : Task) → (task_after stop task).dwell ≡ task.dwell
same_dwell (Pick i) task = refl
same_dwell stop task = refl

goes_on : (points : ℕ) (tau : ℕ → ℕ → ℕ) (dwell : ℕ) (k : ℕ) (task : Task) (place free : ℕ) (stops : List Stop) → task.dwell ≡ dwell → IsTask points task →
    IsOrderOf task stops
    → ServesFrom tau dwell place free (free_seats task) (visits_of task stops)
    → GoesOn points tau dwell (drop k (visits_of task stops)) (drop k (seconds_from tau dwell place free (visits_of task stops))) (rest_of k task stops)
goes_on points tau dwell (suc k) task place free (stop ∷ stops) same valid order serves =
    let v : Visit = visit_at task stop in
    let next : ℕ = place_of v in
    let then : ℕ = free + tau place next + dwell in
    let on = onward points task stop stops valid order serves.2 in
    let renamed : List Stop = map (stop_after stop (length task.aboard.items)) stops in
    let from : ServesFrom tau dwell next then (free_seats (task_after stop task)) (visits_of (task_after stop task) renamed) =
    rw (on.visits, on.room) serves.3 in
    subst (λ vs. GoesOn points tau dwell (drop k vs) (drop k (seconds_from tau dwell next then vs)) (rest_of k (task_after stop task) renamed)) on.visits
    (goes_on points tau dwell k (task_after stop task) next then renamed (same_dwell stop task ∙ same) on.valid on.order from)
goes_on points tau dwell k task place free stops same valid order serves = search rules

-- the rest serves from wherever the next stop is met
meets : (tau : ℕ → ℕ → ℕ) (dwell place free room x ready : ℕ) (visits : List Visit) (seconds : List ℕ) → ServesFrom tau dwell place free room visits →
    seconds_from tau dwell place free visits ≡ seconds
    → MeetsNext tau x ready visits seconds → ServesFrom tau dwell x ready room visits × (seconds_from tau dwell x ready visits ≡ seconds)
meets tau dwell place free room x ready [] seconds serves are joins = (tt, are)
meets tau dwell place free room x ready (v ∷ visits) [] serves are joins = absurd (let e : 0 ≡ suc _ = sym (ap length are) in cc)
meets tau dwell place free room x ready (v ∷ visits) (second ∷ seconds) serves are joins = search rules

pub suffix_serves : (points : ℕ) (tau : ℕ → ℕ → ℕ) (task : Task) (stops : List Stop) (k place ready : ℕ)
    → IsTask points task → Serves tau task stops → place < points → ready ≤ longest
    → MeetsNext tau place ready (drop k (visits_of task stops)) (drop k (seconds_of tau task stops))
    → RestServes points tau task stops k place ready
suffix_serves points tau task stops k place ready valid serves within short joins = grind
    (arith, nat_tests, (goes_on points tau task.dwell k task task.start task.ready stops), (meets tau task.dwell))
