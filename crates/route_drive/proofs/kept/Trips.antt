-- On a driven day a good plan has no late vehicle and no lapsed promise; and of the trips that it chooses: whose stops they
-- are, and what they promise.
use Rattle.std.proofs.Common.{
  ◌≡◌,
  ℕ,
  ◌<◌,
  ◌≤◌,
  true,
  false,
  not,
  List,
  [],
  ◌∷◌,
  length,
  get_or,
  map,
  filter,
  Option,
  Some,
  None,
  refl,
  sym,
  ap,
  ◌∙◌,
  subst,
  arith,
  inl,
  inr,
  All,
  slice_get,
  is_some,
  zero,
  suc,
  eqb,
  nat_eq,
  Bool,
  Contains,
  rules,
}
use Rattle.route_drive.proofs.Common.{
  AllByRecursion,
  AllZip,
  range_with_len,
  recursion_from_All,
  All-from_get_or,
  length-range_with_len,
  get_or-range_with_len,
  slice_get_within,
  slice_get-get_or,
  slice_get_cases,
  travel_time,
  Times,
  Batch,
  Promise,
  Vehicle,
  HasGraphsWith,
  IsGoodPlan,
  IsLate,
  request_at,
  is_promised_to,
  promised_to,
  filter_range_has,
  IsLive,
  IsSettled,
  IsHeld,
  find_vehicle,
  PlannedStop,
  Planned,
  State,
  Settings,
  Roads,
  index_in,
  Settled,
  vehicle_at,
  rider_at,
  no_rider,
  no_vehicle,
  AreTravelTimes,
  IsKept,
  ShowsRiders,
  IsDistinct,
  cases_eq,
  rider_id,
  IsTripOf,
  times_served_as_count,
  choice_at,
  riders_at,
  is_in,
  IsRowOf,
  no_request,
  ChosenTrip,
  has_node,
  IsTrip,
  false≢true,
  get_or-map,
  length-map,
  Passenger,
  told_stop,
  IsPlaced,
  BookRider,
  Aboard,
  look_up-at,
  Stop,
  Pick,
  Drop,
  Alight,
  is_of_rider,
  is_of_passenger,
  IsKnown,
  trip_task,
  visit_at,
  is_stop_of,
  calls_of,
  pool_promise,
  find_passenger,
  eq-eqb,
  ne_eqb,
  zip,
  gets,
  nat_tests,
}
use Rattle.route_drive.proofs.kept.Lists.{filter_none, filter_all}
use Rattle.route_drive.proofs.kept.Batches.{found_at, distinct_from_differ, ids_distinct, other_id, IsRiderAboard}
use Rattle.route_drive.proofs.kept.States.{vehicle_id}
use Rattle.route_drive.proofs.kept.Served.{
  promised_request,
  promised_served,
  passengers_served,
  few_promised,
  request_rider,
  passenger_rider,
  passengers_differ,
}
use Rattle.plan_rules.proofs.lemmas.PlanLemmas.{plan_choice}
use Rattle.plan_rules.proofs.lemmas.SumLemmas.{count_below_two}
use Rattle.plan_rules.specs.Plan.{IsLawful}
use Rattle.route_drive.proofs.kept.Walks.{index_at, is_node_at}
use Rattle.route_drive.proofs.kept.Told.{is_pick, told_calls}
use Rattle.dispatch_engine.specs.declared.outcome.point.Point.TheVariants as point

none_zip : {A B : Type 0} (R : A → B → Type 0) (xs : List A) (ys : List B) → xs ≡ [] → AllZip R xs ys → ys ≡ []
none_zip R [] [] e zip = refl
none_zip R xs ys e zip = grind arith

-- what holds below a number holds along the range
pub along_range : (P : ℕ → Type 0) (n : ℕ) → ((k : ℕ) → k < n → P k) → AllByRecursion P (range_with_len 0 n)
along_range P n each = search (rules, recursion_from_All, All-from_get_or, length-range_with_len, get_or-range_with_len)

zip_get : {A B : Type 0} (R : A → B → Type 0) (xs : List A) (ys : List B) (i : ℕ) (a : A) → AllZip R xs ys → slice_get xs i ≡ Some a →
    (b : B) × (slice_get ys i ≡ Some b) × R a b
zip_get R (x ∷ xs) (y ∷ ys) zero a zip e = let is : x ≡ a = cc in (y, refl, subst (λ a. R a y) is zip.0)
zip_get R (x ∷ xs) (y ∷ ys) (suc i) a zip e = zip_get R xs ys i a zip.1 e
zip_get R xs ys i a zip e = grind arith

zip_back : {A B : Type 0} (R : A → B → Type 0) (xs : List A) (ys : List B) (i : ℕ) (b : B) → AllZip R xs ys → slice_get ys i ≡ Some b →
    (a : A) × (slice_get xs i ≡ Some a) × R a b
zip_back R (x ∷ xs) (y ∷ ys) zero b zip e = let is : y ≡ b = cc in (x, refl, subst (R x) is zip.0)
zip_back R (x ∷ xs) (y ∷ ys) (suc i) b zip e = zip_back R xs ys i b zip.1 e
zip_back R xs ys i b zip e = grind arith

-- a name is met again only at its own number
pub same_number : (names : List ℕ) (q i : ℕ) → IsDistinct nat_eq names → q < length names → i < length names →
    eqb (get_or names q 0) (get_or names i 0) ≡ eqb q i
same_number names q i distinct lq li = grind (arith, nat_tests, index_at names q distinct lq, index_at names i distinct li)

none_filtered : {X : Type 0} (xs : List X) → filter (λ (x : X). false) xs ≡ []
none_filtered [] = refl
none_filtered (x ∷ xs) = none_filtered xs

module _ (settings : Settings) (roads : Roads) (s : State) (stops : ℕ → List PlannedStop) (b : Batch) (settled : Settled) (points : List ℕ) (times : Times)
    (kept : IsKept settings roads s stops) (shows : ShowsRiders s b) (early : (id : ℕ) (v : Vehicle) → find_vehicle id s.vehicles ≡ Some v →
    b.sealed_at ≤ v.time)
    (limits : IsSettled settings points (travel_time times) b settled) (table : AreTravelTimes roads.arcs (map (index_in roads.nodes) points) times) where
  -- the vehicle of a number
  pub vehicle_of_number : (k : ℕ) → k < length settled.vehicles → (x : Vehicle) × (slice_get b.vehicles k ≡ Some x)
  vehicle_of_number k h = elim (slice_get_cases b.vehicles k).1 [
    | inl found ↦ (found.0, found.2)
    | inr past ↦ absurd (let p = past.0 in let c = limits.vehicle_count in omega (arith, p, c, h))
  ]

  pub not_late : (k : ℕ) → k < length settled.vehicles → (vehicle_at settled k).late ≡ false
  not_late k h =
      let x = vehicle_of_number k h in
      grind (arith, nat_tests, limits.late k h, passengers_served settings roads s stops b settled points times kept shows early limits table k x.0 x.1)

  -- a vehicle that has promised is live
  pub live_at : (k : ℕ) → k < length settled.vehicles → IsLive settings (travel_time times) b.riders settled.riders (vehicle_at settled k)
  live_at k h =
      let x = vehicle_of_number k h in
      record {
        few = few_promised settings roads s stops b settled points times kept shows early limits table k x.0 x.1;
        servable = promised_served settings roads s stops b settled points times kept shows early limits table k x.0 x.1;
      }

  -- each vehicle keeps all riders promised to it
  pub holds : (k : ℕ) → (h : k < length settled.vehicles) → (vehicle_at settled k).held.items ≡ promised_to (vehicle_at settled k).id b.riders
  holds k h = elim (limits.held k h) [ inl both ↦ both.1 | inr other ↦ absurd (other.0 (live_at k h)) ]

  -- a vehicle of an id has a number
  pub number_of_vehicle : (id : ℕ) (v : Vehicle) → find_vehicle id s.vehicles ≡ Some v → (k : ℕ) × (k < length settled.vehicles) ×
      (slice_get b.vehicles k ≡ Some v)
  number_of_vehicle id v found =
      let place = found_at (λ (v : Vehicle). v.id) id s.vehicles v found in
      let at : slice_get s.vehicles place.0 ≡ Some v = slice_get-get_or s.vehicles place.0 v place.1 ∙ ap Some (place.2 v) in
      let at' : slice_get b.vehicles place.0 ≡ Some v = subst (λ vs. slice_get vs place.0 ≡ Some v) (sym shows.vehicles) at in
      (place.0, omega (arith, slice_get_within b.vehicles place.0 v at', limits.vehicle_count), at')

  -- every promise is kept
  pub promise_is_held : (r : ℕ) (id : ℕ) → r < length b.riders → is_promised_to id (request_at b.riders r) ≡ true → IsHeld settled.vehicles r
  promise_is_held r id h promised =
      let of = promised_request settings roads s stops b settled points times kept shows early limits table id r h promised in
      let holder = kept.state.promises (request_at b.riders r).id of.rider of.promise of.found of.status in
      let k = number_of_vehicle of.promise.vehicle holder.vehicle holder.at in
      let own : (vehicle_at settled k.0).id ≡ id = (limits.placed k.0 holder.vehicle k.2).id ∙
      vehicle_id of.promise.vehicle s.vehicles holder.vehicle holder.at ∙ of.own in
      let listed : Contains (promised_to (vehicle_at settled k.0).id b.riders) r =
      filter_range_has (λ m. is_promised_to (vehicle_at settled k.0).id (request_at b.riders m)) (length b.riders) r h
      (subst (λ v. is_promised_to v (request_at b.riders r) ≡ true) (sym own) promised) in
      (k.0, k.1, subst (λ xs. Contains xs r) (sym (holds k.0 k.1)) listed)

  pub not_lapsed : (r : ℕ) → r < length settled.riders → (rider_at settled r).lapsed ≡ false
  not_lapsed r h = elim (limits.limits r h) [ inl live ↦ live.2 | inr other ↦ other.2 ∙ promised (request_at b.riders r).promise refl other.0 ]
    where
      within : r < length b.riders
      within = let c = limits.rider_count in omega (arith, h, c)

      promised : (o : Option Promise) → (request_at b.riders r).promise ≡ o → (IsHeld settled.vehicles r → ⊥) → is_some o ≡ false
      promised None e not = refl
      promised (Some p) e not =
          let to : is_promised_to p.vehicle (request_at b.riders r) ≡ true = rw e (eq-eqb p.vehicle p.vehicle refl) in
          absurd (not (promise_is_held r p.vehicle within to))

  -- by the limits that follow from these travel times
  pub all_in_time : All (λ v. v.late ≡ false) settled.vehicles × All (λ r. r.lapsed ≡ false) settled.riders
  all_in_time = (
    All-from_get_or (λ v. v.late ≡ false) settled.vehicles no_vehicle not_late,
    All-from_get_or (λ r. r.lapsed ≡ false) settled.riders no_rider
        not_lapsed,
  )

  pub nothing_lapses : (planned : Planned) → HasGraphsWith settings points (travel_time times) settled (IsGoodPlan settings planned) →
      (planned.late ≡ []) × (planned.lapsed ≡ [])
  nothing_lapses planned good = (
    none_zip (IsLate points (travel_time times) settled) (filter (λ v. (vehicle_at settled v).late) (range_with_len 0 (length settled.vehicles))) planned.late
        (filter_none (λ v. (vehicle_at settled v).late) (range_with_len 0 (length settled.vehicles))
        (along_range (λ v. (vehicle_at settled v).late ≡ false) (length settled.vehicles) not_late)) (good.holds point.Late),
    (good.holds point.Graphs).0 ∙ ap (map (λ r. r.id)) (filter_none (λ r. r.lapsed) settled.riders
        (recursion_from_All (λ r. r.lapsed ≡ false) settled.riders (All-from_get_or (λ r. r.lapsed ≡ false) settled.riders no_rider not_lapsed))),
  )

  module _ (planned : Planned) (good : HasGraphsWith settings points (travel_time times) settled (IsGoodPlan settings planned)) where
    trips : AllZip (IsTripOf points (travel_time times) settled good.graph (good.holds point.Plan).chosen) (range_with_len 0 (length settled.vehicles))
        planned.chosen
    trips = subst (λ xs. AllZip (IsTripOf points (travel_time times) settled good.graph (good.holds point.Plan).chosen) xs planned.chosen)
        (filter_all (λ v. not (vehicle_at settled v).late) (range_with_len 0 (length settled.vehicles))
        (along_range (λ v. not (vehicle_at settled v).late ≡ true) (length settled.vehicles)
        (λ k h. ap not (not_late k h))))
        (good.holds point.Plan).trips

    pub trip_of : (k : ℕ) → k < length settled.vehicles → (t : ChosenTrip) × (slice_get planned.chosen k ≡ Some t) × IsTripOf points (travel_time times) settled
        good.graph (good.holds point.Plan).chosen k t
    trip_of k h = zip_get (IsTripOf points (travel_time times) settled good.graph (good.holds point.Plan).chosen) (range_with_len 0 (length settled.vehicles))
        planned.chosen k k trips (grind (
          arith,
          gets,
          length-range_with_len 0 (length settled.vehicles),
          get_or-range_with_len 0 (length settled.vehicles) k 0
              h,
        ))

    pub trip_back : (i : ℕ) (t : ChosenTrip) → slice_get planned.chosen i ≡ Some t → (i < length settled.vehicles) × IsTripOf points (travel_time times) settled
        good.graph (good.holds point.Plan).chosen i t
    trip_back i t e =
        let back = zip_back (IsTripOf points (travel_time times) settled good.graph (good.holds point.Plan).chosen) (range_with_len 0 (length settled.vehicles))
        planned.chosen i t trips e in
        let at : (i < length settled.vehicles) × (back.0 ≡ i) = grind (
          arith,
          gets,
          length-range_with_len 0 (length settled.vehicles),
          get_or-range_with_len 0
              (length settled.vehicles) i 0,
          back.1,
        ) in
        (at.0, subst (λ a. IsTripOf points (travel_time times) settled good.graph (good.holds point.Plan).chosen a t) at.1 back.2)

    lawful : IsLawful good.graph (good.holds point.Plan).chosen
    lawful = (good.holds point.Plan).holds.0

    pub row_of : (k row : ℕ) → k < length settled.vehicles → choice_at (good.holds point.Plan).chosen k ≡ Some row → IsRowOf good.graph k row
    row_of k row h e = let c = good.exact.vehicle_total in plan_choice good.graph (good.holds point.Plan).chosen k row lawful.plan (omega (arith, c, h)) e

    pub trip_is : (k row : ℕ) → k < length settled.vehicles → choice_at (good.holds point.Plan).chosen k ≡ Some row →
        IsTrip (length b.riders) (riders_at good.graph row) × (length (riders_at good.graph row) ≤ settings.trip)
    trip_is k row h e = search rules

    -- no rider is in two trips
    pub one_trip : (k j row other r : ℕ) → k < length settled.vehicles → j < length settled.vehicles → choice_at (good.holds point.Plan).chosen k ≡ Some row →
        choice_at (good.holds point.Plan).chosen j ≡ Some other
        → has_node (riders_at good.graph row) r ≡ true → has_node (riders_at good.graph other) r ≡ true → k ≡ j
    one_trip k j row other r lk lj ek ej hk hj = elim (cases_eq k j) [
      | inl e ↦ e
      | inr ne ↦ absurd (
          let two = count_below_two good.graph.vehicles (λ v. is_in good.graph (choice_at (good.holds point.Plan).chosen v) r) k j
          (omega (arith, good.exact.vehicle_total, lk)) (omega (arith, good.exact.vehicle_total, lj)) ne
          (ap (λ o. is_in good.graph o r) ek ∙ hk) (ap (λ o. is_in good.graph o r) ej ∙ hj) in
          omega (arith, two, times_served_as_count good.graph (good.holds point.Plan).chosen good.graph.vehicles r, lawful.once r))
    ]

    -- the ids that are told are those of the batch
    pub told_id : (r : ℕ) → r < length b.riders → rider_id settled r ≡ (request_at b.riders r).id
    told_id r h = limits.ids r (request_at b.riders r) (slice_get-get_or b.riders r no_request h)

    module _ (k : ℕ) (lk : k < length settled.vehicles) (x : Vehicle) (at : slice_get b.vehicles k ≡ Some x) (t : ChosenTrip)
        (is : IsTripOf points (travel_time times) settled good.graph (good.holds point.Plan).chosen k t) where
      abbrev pub trip : List ℕ
      trip = riders_at good.graph is.row

      trip_rises : IsTrip (length b.riders) trip
      trip_rises = (trip_is k is.row lk is.chooses).0

      member_within : (i : ℕ) → i < length trip → get_or trip i 0 < length b.riders
      member_within i h = trip_rises.within i 0 h

      abbrev trip_names : List ℕ
      trip_names = map (λ n. (request_at b.riders n).id) (riders_at good.graph is.row)

      trip_names_length : length trip_names ≡ length trip
      trip_names_length = length-map trip (λ n. (request_at b.riders n).id)

      trip_names_distinct : IsDistinct nat_eq trip_names
      trip_names_distinct = ids_distinct b.riders shows.rise trip trip_rises

      name_is : (i : ℕ) → i < length trip → get_or trip_names i 0 ≡ (request_at b.riders (get_or trip i 0)).id
      name_is i h = get_or-map (λ n. (request_at b.riders n).id) trip i 0 0 h

      placed : IsPlaced settings points (travel_time times) b.sealed_at x (vehicle_at settled k)
      placed = limits.placed k x at

      abbrev passenger_names : List ℕ
      passenger_names = map (λ (p : Passenger). p.rider) x.aboard.items

      passengers_length : length passenger_names ≡ length x.aboard.items
      passengers_length = length-map x.aboard.items (λ (p : Passenger). p.rider)

      abbrev none_aboard : Passenger
      none_aboard = record { rider = 0; origin = 0; destination = 0; time = 0; party = 0 }

      -- the rider of a passenger
      pub rider_aboard : (j : ℕ) → j < length x.aboard.items → IsRiderAboard s x.id (get_or passenger_names j 0) (get_or x.aboard.items j none_aboard)
      rider_aboard j h =
          let name : get_or passenger_names j 0 ≡ (get_or x.aboard.items j none_aboard).rider =
          get_or-map (λ (p : Passenger). p.rider) x.aboard.items j none_aboard 0 h in
          let found : find_passenger (get_or x.aboard.items j none_aboard).rider x.aboard.items ≡ Some (get_or x.aboard.items j none_aboard) =
          look_up-at (λ (p : Passenger). p.rider) j x.aboard.items none_aboard (passengers_differ settings roads s stops b settled points times kept shows early
          limits table k x at) h in
          passenger_rider settings roads s stops b settled points times kept shows early limits table k x at (get_or passenger_names j 0)
          (get_or x.aboard.items j none_aboard) (ap (λ z. find_passenger z x.aboard.items) name ∙ found)

      -- nobody of the batch's requests is aboard
      pub not_aboard : (r j : ℕ) → r < length b.riders → j < length x.aboard.items → get_or passenger_names j 0 ≡ (request_at b.riders r).id → ⊥
      not_aboard r j lr lj e =
          let of = request_rider settings roads s stops b settled points times kept shows early limits table r lr in
          let aboard = rider_aboard j lj in
          let same : of.0 ≡ aboard.rider = cc (of.1, aboard.found, e) in
          let status : of.0.status ≡ Aboard x.id = ap (λ (r : BookRider). r.status) same ∙ aboard.status in
          let pool : pool_promise (Aboard x.id) ≡ Some of.2.promise = ap pool_promise (sym status) ∙ of.2.pool in
          absurd cc

      abbrev pub told : Stop × ℕ → PlannedStop
      told = told_stop points settled k (riders_at good.graph is.row)

      pub known : AllByRecursion (IsKnown (length trip) (length x.aboard.items)) is.stops
      known =
          let a : length (map (λ r. (rider_at settled r).leg) trip) ≡ length trip = length-map trip (λ r. (rider_at settled r).leg) in
          subst (λ n. AllByRecursion (IsKnown n (length x.aboard.items)) is.stops) a
          (subst (λ m. AllByRecursion (IsKnown (length (map (λ r. (rider_at settled r).leg) trip)) m) is.stops) placed.aboard_count is.serves.order.known)

      -- whose the stops are that are told
      told_member : (i : ℕ) → i < length trip → rider_id settled (get_or trip i 0) ≡ get_or trip_names i 0
      told_member i h = told_id (get_or trip i 0) (member_within i h) ∙ sym (name_is i h)

      told_passenger : (j : ℕ) → get_or (vehicle_at settled k).aboard_ids.items j 0 ≡ get_or passenger_names j 0
      told_passenger j = ap (λ ids. get_or ids j 0) placed.aboard_ids

      rider_test : (i : ℕ) → i < length trip → (stop : Stop) (second : ℕ) → IsKnown (length trip) (length x.aboard.items) stop →
          is_stop_of (get_or trip_names i 0) (told (stop, second)) ≡ is_of_rider i stop
      rider_test i h (Pick q) second l = ap (λ n. eqb n (get_or trip_names i 0)) (told_member q l) ∙
          same_number trip_names q i trip_names_distinct (let e = trip_names_length in omega (arith, e, l)) (let e = trip_names_length in omega (arith, e, h))
      rider_test i h (Drop q) second l = ap (λ n. eqb n (get_or trip_names i 0)) (told_member q l) ∙
          same_number trip_names q i trip_names_distinct (let e = trip_names_length in omega (arith, e, l)) (let e = trip_names_length in omega (arith, e, h))
      rider_test i h (Alight j) second l = ap (λ n. eqb n (get_or trip_names i 0)) (told_passenger j) ∙
          ne_eqb (get_or passenger_names j 0) (get_or trip_names i 0) (λ e. not_aboard (get_or trip i 0) j (member_within i h) l (e ∙ name_is i h))

      passenger_test : (i : ℕ) → i < length x.aboard.items → (stop : Stop) (second : ℕ) → IsKnown (length trip) (length x.aboard.items) stop →
          is_stop_of (get_or passenger_names i 0) (told (stop, second)) ≡ is_of_passenger i stop
      passenger_test i h (Pick q) second l = ap (λ n. eqb n (get_or passenger_names i 0)) (told_member q l) ∙
          ne_eqb (get_or trip_names q 0) (get_or passenger_names i 0) (λ e. not_aboard (get_or trip q 0) i (member_within q l) h (sym e ∙ name_is q l))
      passenger_test i h (Drop q) second l = ap (λ n. eqb n (get_or passenger_names i 0)) (told_member q l) ∙
          ne_eqb (get_or trip_names q 0) (get_or passenger_names i 0) (λ e. not_aboard (get_or trip q 0) i (member_within q l) h (sym e ∙ name_is q l))
      passenger_test i h (Alight j) second l = ap (λ n. eqb n (get_or passenger_names i 0)) (told_passenger j) ∙
          same_number passenger_names j i (distinct_from_differ (λ (p : Passenger). p.rider) x.aboard.items
          (passengers_differ settings roads s stops b settled points times kept shows early limits table k x at))
          (let e = passengers_length in omega (arith, e, l)) (let e = passengers_length in omega (arith, e, h))

      other_test : (r : ℕ) → r < length b.riders → has_node trip r ≡ false → (stop : Stop) (second : ℕ) → IsKnown (length trip) (length x.aboard.items) stop →
          is_stop_of (request_at b.riders r).id (told (stop, second)) ≡ false
      other_test r lr out (Pick q) second l = ap (λ n. eqb n (request_at b.riders r).id) (told_member q l) ∙
          ne_eqb (get_or trip_names q 0) (request_at b.riders r).id (λ e.
          let same : get_or trip q 0 ≡ r = other_id b.riders shows.rise (get_or trip q 0) r (member_within q l) lr (sym (name_is q l) ∙ e) in
          false≢true (sym out ∙ subst (λ n. has_node trip n ≡ true) same (is_node_at trip q l)))
      other_test r lr out (Drop q) second l = ap (λ n. eqb n (request_at b.riders r).id) (told_member q l) ∙
          ne_eqb (get_or trip_names q 0) (request_at b.riders r).id (λ e.
          let same : get_or trip q 0 ≡ r = other_id b.riders shows.rise (get_or trip q 0) r (member_within q l) lr (sym (name_is q l) ∙ e) in
          false≢true (sym out ∙ subst (λ n. has_node trip n ≡ true) same (is_node_at trip q l)))
      other_test r lr out (Alight j) second l = ap (λ n. eqb n (request_at b.riders r).id) (told_passenger j) ∙
          ne_eqb (get_or passenger_names j 0) (request_at b.riders r).id (not_aboard r j lr l)

      pick_is : (stop : Stop) (second : ℕ) → IsKnown (length trip) (length x.aboard.items) stop → (told (stop, second)).pick ≡ is_pick stop
      pick_is (Pick q) second l = refl
      pick_is stop second l = refl

      calls_by : (z : ℕ) (test : Stop → Bool) → ((stop : Stop) (second : ℕ) → IsKnown (length trip) (length x.aboard.items) stop →
          is_stop_of z (told (stop, second)) ≡ test stop) → calls_of z t.stops.items ≡ map is_pick (filter test is.stops)
      calls_by z test same = ap (calls_of z) is.told ∙ told_calls roads points times table s.riders settled.dwell (visit_at (trip_task settled k trip)) told z
          test (IsKnown (length trip) (length x.aboard.items)) same pick_is is.stops (vehicle_at settled k).start (vehicle_at settled k).ready known

      -- a rider of the trip has a pickup and then a drop-off, a passenger a drop-off, and another request nothing
      pub member_calls : (i : ℕ) → i < length trip → calls_of (request_at b.riders (get_or trip i 0)).id t.stops.items ≡ true ∷ false ∷ []
      member_calls i h =
          let a : length (map (λ r. (rider_at settled r).leg) trip) ≡ length trip = length-map trip (λ r. (rider_at settled r).leg) in
          ap (λ z. calls_of z t.stops.items) (sym (name_is i h)) ∙ calls_by (get_or trip_names i 0) (is_of_rider i) (rider_test i h) ∙
          ap (map is_pick) (is.serves.order.rides i (omega (arith, a, h)))

      pub passenger_calls : (j : ℕ) → j < length x.aboard.items → calls_of (get_or passenger_names j 0) t.stops.items ≡ false ∷ []
      passenger_calls j h = let c = placed.aboard_count in calls_by (get_or passenger_names j 0) (is_of_passenger j) (passenger_test j h) ∙
          ap (map is_pick) (is.serves.order.alights j (omega (arith, c, h)))

      pub other_calls : (r : ℕ) → r < length b.riders → has_node trip r ≡ false → calls_of (request_at b.riders r).id t.stops.items ≡ []
      other_calls r lr out = calls_by (request_at b.riders r).id (λ stop. false) (other_test r lr out) ∙ ap (map is_pick) (none_filtered is.stops)
