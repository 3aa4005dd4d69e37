-- At a seal the stops of a vehicle serve, by the batch's table, its passengers and the riders promised to it.
use Rattle.std.proofs.Common.{
  ◌≡◌,
  ℕ,
  ◌+◌,
  ◌-◌,
  ◌*◌,
  ◌<◌,
  ◌≤◌,
  true,
  false,
  List,
  [],
  ◌∷◌,
  length,
  get_or,
  map,
  filter,
  max,
  min,
  Some,
  refl,
  sym,
  ap,
  ◌∙◌,
  subst,
  arith,
  inl,
  inr,
  option_and_then,
  slice_get,
  Contains,
}
use Rattle.route_drive.proofs.Common.{
  AllByRecursion,
  range_with_len,
  cases_Bool,
  false≢true,
  get_or-map,
  length-map,
  get_or_default,
  filter_passes,
  slice_get_within,
  get_or_from_slice_get,
  slice_get-get_or,
  travel_time,
  Times,
  Batch,
  persons_aboard,
  Passenger,
  Promise,
  Rider,
  Vehicle,
  IsLegOf,
  request_at,
  no_request,
  promised_limit,
  is_promised_to,
  promised_to,
  kept_legs,
  kept_leg,
  IsPlaced,
  IsSettled,
  filter_range_has,
  promised_trip,
  seat_in,
  look_up,
  KeysDiffer,
  shown,
  passenger_of,
  find_rider,
  find_vehicle,
  find_passenger,
  PlannedStop,
  BookRider,
  Status,
  Promised,
  Aboard,
  State,
  look_up-at,
  KeysDiffer-from_rise,
  All-look_up,
  Settings,
  Roads,
  index_in,
  has_node,
  Leg,
  Settled,
  Stop,
  Pick,
  Drop,
  Alight,
  Task,
  IsOrder,
  vehicle_at,
  rider_at,
  no_rider,
  vehicle_task,
  IsTrip,
  no_leg,
  leg_at,
  visit_at,
  visits_of,
  free_seats,
  IsServable,
  soon_there,
  ServesFrom,
  boarding_of,
  AreTravelTimes,
  IsDroppedInTime,
  IsRightStop,
  IsRightPickup,
  IsRightDropoff,
  IsOfVehicle,
  IsServing,
  IsKept,
  HasCalls,
  calls_of,
  ShowsRiders,
  eq-eqb,
  map-map,
  nat_tests,
}
use Rattle.stop_orders.specs.declared.task.visit.Visit.TheVariants.{Pickup, Dropoff}
use Rattle.route_drive.proofs.kept.Lists.{all_weaker, both, map_agrees, all_filtered, all_from}
use Rattle.route_drive.proofs.kept.Walks.{has_index, name_at, is_node_at}
use Rattle.route_drive.proofs.kept.Riders.{found_id, right_cases}
use Rattle.route_drive.proofs.kept.Enter.{picked_up_right, dropped_right}
use Rattle.route_drive.proofs.kept.Numbers.{
  number_of,
  IsNumbered,
  number_picks,
  number_drops,
  number_alights,
  numbers_are_order,
  alights_only,
  passengers_order,
  order_length,
}
use Rattle.route_drive.proofs.kept.Tables.{IsSeen, ideal_is, serves_by_table, sub_serves}
use Rattle.route_drive.proofs.kept.Batches.{found_at, ids_distinct, distinct_from_differ, same_persons, IsAsking, IsPromisedRider, IsRiderAboard}

-- a leg's drop-off, as the stop that it is
leg_drop : (settings : Settings) (roads : Roads) (points : List ℕ) (times : Times) → AreTravelTimes roads.arcs (map (index_in roads.nodes) points) times
    → (riders : List BookRider) (r : BookRider) (leg : Leg) (stop : PlannedStop) → IsLegOf settings points (travel_time times) r.origin r.destination r.time
    r.party leg
    → stop.pick ≡ false → stop.node ≡ r.destination → find_rider stop.rider riders ≡ Some r → IsDroppedInTime roads settings.delay r stop.second
    → IsSeen points riders stop (Dropoff leg.destination leg.latest_dropoff leg.ideal leg.party)
leg_drop settings roads points times table riders r leg stop is drop node found in_time = record {
  place = leg.destination;
  latest = leg.latest_dropoff;
  ideal = leg.ideal;
  node = is.destination_place ∙ ap Some (sym node);
  in_time = omega (
    arith,
    is.latest_dropoff,
    is.ideal,
    ideal_is roads points times table leg.origin leg.destination r.origin r.destination in_time.seconds
        r.time is.origin_place is.destination_place in_time.between,
    in_time.in_time,
  );
  is = grind (arith, nat_tests, drop, is.size, found);
}

-- a leg's pickup, as the stop that it is
leg_pick : (settings : Settings) (points : List ℕ) (times : Times) (riders : List BookRider) (r : BookRider) (leg : Leg) (limit : ℕ) (stop : PlannedStop)
    → IsLegOf settings points (travel_time times) r.origin r.destination r.time r.party leg
    → stop.pick ≡ true → stop.node ≡ r.origin → find_rider stop.rider riders ≡ Some r → stop.second ≤ limit
    → IsSeen points riders stop (Pickup leg.origin limit leg.party)
leg_pick settings points times riders r leg limit stop is pick node found in_time = record {
  place = leg.origin;
  latest = limit;
  ideal = 0;
  node = is.origin_place ∙ ap Some (sym node);
  in_time = in_time;
  is = grind (arith, nat_tests, pick, is.size, found);
}

module _ (settings : Settings) (roads : Roads) (s : State) (stops : ℕ → List PlannedStop) (b : Batch) (settled : Settled) (points : List ℕ) (times : Times)
    (kept : IsKept settings roads s stops) (shows : ShowsRiders s b) (early : (id : ℕ) (v : Vehicle) → find_vehicle id s.vehicles ≡ Some v →
    b.sealed_at ≤ v.time)
    (limits : IsSettled settings points (travel_time times) b settled) (table : AreTravelTimes roads.arcs (map (index_in roads.nodes) points) times) where
  -- a request of the batch, and its rider
  pub request_rider : (n : ℕ) → n < length b.riders → (r : BookRider) × (find_rider (request_at b.riders n).id s.riders ≡ Some r) × IsAsking b.sealed_at r
      (request_at b.riders n)
  request_rider n h =
      let at : look_up (λ (r : Rider). r.id) (request_at b.riders n).id b.riders ≡ Some (request_at b.riders n) =
      look_up-at (λ (r : Rider). r.id) n b.riders no_request (KeysDiffer-from_rise (λ (r : Rider). r.id) b.riders shows.rise) h in
      let of = shows.shows (request_at b.riders n).id (request_at b.riders n) at in
      (of.0, of.1, grind (arith, nat_tests, of.2))

  pub promised_request : (vehicle n : ℕ) → n < length b.riders → is_promised_to vehicle (request_at b.riders n) ≡ true →
      IsPromisedRider s vehicle (request_at b.riders n).id (request_at b.riders n)
  promised_request vehicle n h promised = grind (arith, nat_tests, (request_rider n h))

  module _ (k : ℕ) (x : Vehicle) (at : slice_get b.vehicles k ≡ Some x) where
    placed : IsPlaced settings points (travel_time times) b.sealed_at x (vehicle_at settled k)
    placed = limits.placed k x at

    pub vehicle_found : find_vehicle x.id s.vehicles ≡ Some x
    vehicle_found =
        let at' : slice_get s.vehicles k ≡ Some x = subst (λ vs. slice_get vs k ≡ Some x) shows.vehicles at in
        let is : get_or s.vehicles k x ≡ x = get_or_from_slice_get s.vehicles k x x at' in
        subst (λ (v : Vehicle). find_vehicle v.id s.vehicles ≡ Some v) is
        (look_up-at (λ (v : Vehicle). v.id) k s.vehicles x (KeysDiffer-from_rise (λ (v : Vehicle). v.id) s.vehicles kept.state.consistent.vehicles_rise)
        (slice_get_within s.vehicles k x at'))

    serves : IsServing settings roads s.riders x x.time (stops x.id)
    serves = kept.each x.id x vehicle_found

    abbrev numbers : List ℕ
    numbers = promised_to (vehicle_at settled k).id b.riders

    abbrev names : List ℕ
    names = map (λ n. (request_at b.riders n).id) (promised_to (vehicle_at settled k).id b.riders)

    abbrev passenger_names : List ℕ
    passenger_names = map (λ (p : Passenger). p.rider) x.aboard.items

    trip : IsTrip (length b.riders) (promised_to (vehicle_at settled k).id b.riders)
    trip = promised_trip (vehicle_at settled k).id b.riders

    number_within : (i : ℕ) → i < length numbers → get_or numbers i 0 < length b.riders
    number_within i h = trip.within i 0 h

    number_promised : (i : ℕ) → i < length numbers → IsPromisedRider s x.id (request_at b.riders (get_or numbers i 0)).id
        (request_at b.riders (get_or numbers i 0))
    number_promised i h =
        subst (λ v. IsPromisedRider s v (request_at b.riders (get_or numbers i 0)).id (request_at b.riders (get_or numbers i 0))) placed.id
        (promised_request (vehicle_at settled k).id (get_or numbers i 0) (number_within i h)
        (filter_passes (λ n. is_promised_to (vehicle_at settled k).id (request_at b.riders n)) (range_with_len 0 (length b.riders)) i 0 h))

    name_is : (i : ℕ) → i < length numbers → get_or names i 0 ≡ (request_at b.riders (get_or numbers i 0)).id
    name_is i h = get_or-map (λ n. (request_at b.riders n).id) numbers i 0 0 h

    names_length : length names ≡ length numbers
    names_length = length-map numbers (λ n. (request_at b.riders n).id)

    passengers_length : length passenger_names ≡ length x.aboard.items
    passengers_length = length-map x.aboard.items (λ (p : Passenger). p.rider)

    pub passengers_differ : KeysDiffer (λ (p : Passenger). p.rider) x.aboard.items
    passengers_differ = All-look_up (λ (v : Vehicle). v.id) (λ (v : Vehicle). KeysDiffer (λ p. p.rider) v.aboard.items) x.id s.vehicles x
        kept.state.consistent.passengers vehicle_found

    -- who has a name among the promised is promised, and the other way round
    named : (z : ℕ) → has_node names z ≡ true → (i : ℕ) × (i < length numbers) × IsPromisedRider s x.id z (request_at b.riders (get_or numbers i 0)) ×
        (index_in names z ≡ i)
    named z h =
        let l : index_in names z < length names = has_index names z h in
        let li : index_in names z < length numbers = omega (arith, l, names_length) in (
          index_in names z,
          li,
          subst (λ y. IsPromisedRider s x.id y (request_at b.riders (get_or numbers (index_in names z) 0)))
              (sym (name_is (index_in names z) li) ∙ name_at names z l) (number_promised (index_in names z) li),
          refl,
        )

    to_named : (z : ℕ) (r : BookRider) (p : Promise) → find_rider z s.riders ≡ Some r → r.status ≡ Promised p → p.vehicle ≡ x.id → has_node names z ≡ true
    to_named z r p found status own =
        let place = found_at (λ (r : Rider). r.id) z b.riders (shown r (Some p)) (shows.promised z r p found status) in
        let is : request_at b.riders place.0 ≡ shown r (Some p) = place.2 no_request in
        let to : is_promised_to (vehicle_at settled k).id (request_at b.riders place.0) ≡ true =
        ap (is_promised_to (vehicle_at settled k).id) is ∙ eq-eqb p.vehicle (vehicle_at settled k).id (own ∙ sym placed.id) in
        let has : Contains numbers place.0 = filter_range_has (λ n. is_promised_to (vehicle_at settled k).id (request_at b.riders n)) (length b.riders) place.0
        place.1 to in
        let n : get_or numbers has.0 0 ≡ place.0 = sym (get_or_default numbers has.0 place.0 0 has.1) ∙ has.2 in
        let name : get_or names has.0 0 ≡ z = name_is has.0 has.1 ∙ ap (λ n. (request_at b.riders n).id) n ∙ ap (λ (q : Rider). q.id) is ∙
        found_id z s.riders r found in
        subst (λ z. has_node names z ≡ true) name (is_node_at names has.0 (omega (arith, has.1, names_length)))

    pub passenger_rider : (z : ℕ) (p : Passenger) → find_passenger z x.aboard.items ≡ Some p → IsRiderAboard s x.id z p
    passenger_rider z p e = grind (arith, nat_tests, e, vehicle_found, kept.state.consistent.aboard x.id z)

    abbrev no_passenger : Passenger
    no_passenger = record { rider = 0; origin = 0; destination = 0; time = 0; party = 0 }

    passenger_at_name : (z : ℕ) → has_node passenger_names z ≡ true
        → (index_in passenger_names z < length x.aboard.items) × IsRiderAboard s x.id z (get_or x.aboard.items (index_in passenger_names z) no_passenger)
    passenger_at_name z h =
        let l : index_in passenger_names z < length passenger_names = has_index passenger_names z h in
        let lj : index_in passenger_names z < length x.aboard.items = omega (arith, l, passengers_length) in
        let name : (get_or x.aboard.items (index_in passenger_names z) no_passenger).rider ≡ z =
        sym (get_or-map (λ (p : Passenger). p.rider) x.aboard.items (index_in passenger_names z) no_passenger 0 lj) ∙ name_at passenger_names z l in
        let found : find_passenger (get_or x.aboard.items (index_in passenger_names z) no_passenger).rider x.aboard.items ≡ Some
        (get_or x.aboard.items (index_in passenger_names z) no_passenger) =
        look_up-at (λ (p : Passenger). p.rider) (index_in passenger_names z) x.aboard.items no_passenger passengers_differ lj in
        (lj, passenger_rider z (get_or x.aboard.items (index_in passenger_names z) no_passenger) (ap (λ z. find_passenger z x.aboard.items) (sym name) ∙ found))

    pub passenger_at : (z : ℕ) (r : BookRider) → find_rider z s.riders ≡ Some r → r.status ≡ Aboard x.id →
        (j : ℕ) × (j < length x.aboard.items) × (get_or (map (λ (p : Passenger). p.rider) x.aboard.items) j 0 ≡ z)
    passenger_at z r found status =
        let at_z : find_passenger z x.aboard.items ≡ Some (passenger_of r) =
        ap (option_and_then (λ (v : Vehicle). find_passenger z v.aboard.items)) (sym vehicle_found) ∙ kept.state.consistent.aboard x.id z ∙
        ap (option_and_then (seat_in x.id)) found ∙ rw (status, eq-eqb x.id x.id refl) refl in
        let place = found_at (λ (p : Passenger). p.rider) z x.aboard.items (passenger_of r) at_z in (
          place.0,
          place.1,
          get_or-map (λ (p : Passenger). p.rider) x.aboard.items place.0 no_passenger 0 place.1 ∙
              ap (λ (p : Passenger). p.rider) (place.2 no_passenger) ∙ found_id z s.riders r found,
        )

    to_passenger : (z : ℕ) (r : BookRider) → find_rider z s.riders ≡ Some r → r.status ≡ Aboard x.id → has_node passenger_names z ≡ true
    to_passenger z r found status = let place = passenger_at z r found status in subst (λ z. has_node passenger_names z ≡ true) place.2
        (is_node_at passenger_names place.0 (omega (arith, place.1, passengers_length)))

    -- nobody is promised and aboard
    names_apart : (z : ℕ) → has_node names z ≡ true → has_node passenger_names z ≡ false
    names_apart z h = elim (cases_Bool (has_node passenger_names z)) [
      | inr f ↦ f
      | inl t ↦
          let place = named z h in
          let aboard = (passenger_at_name z t).1 in
          absurd (grind (arith, place.2.found, place.2.status, aboard.found, aboard.status))
    ]

    stops_numbered : AllByRecursion (IsNumbered names passenger_names) (stops x.id)
    stops_numbered = all_weaker (IsRightStop settings roads s.riders x.id) (IsNumbered names passenger_names)
        (λ stop right. elim (right_cases settings roads s.riders x.id stop right) [
          | inl own ↦ IsNumbered.picks own.0 (to_named stop.rider own.1.rider (record { vehicle = x.id; pickup = stop.second }) own.1.found own.1.status refl)
          | inr own ↦ drop_by stop own.1.rider own.0 own.1.found own.1.rider.status refl own.1.own
        ]) (stops x.id) serves.right
      where
        drop_by : (stop : PlannedStop) (r : BookRider) → stop.pick ≡ false → find_rider stop.rider s.riders ≡ Some r → (t : Status) → r.status ≡ t →
            IsOfVehicle x.id t → IsNumbered names passenger_names stop
        drop_by stop r drop found (Promised p) e own = let h = to_named stop.rider r p found e own in IsNumbered.drops drop h (names_apart stop.rider h)
        drop_by stop r drop found (Aboard u) e own = IsNumbered.alights drop (to_passenger stop.rider r found (e ∙ ap Aboard own))
        drop_by stop r drop found status e own = absurd own

    rides : (z : ℕ) → has_node names z ≡ true → calls_of z (stops x.id) ≡ true ∷ false ∷ []
    rides z h =
        let place = named z h in
        (subst (λ t. HasCalls x.id t (calls_of z (stops x.id))) place.2.status (serves.calls z place.2.rider place.2.found)) place.2.own

    leaves : (z : ℕ) → has_node passenger_names z ≡ true → calls_of z (stops x.id) ≡ false ∷ []
    leaves z h =
        let aboard = (passenger_at_name z h).1 in
        (subst (λ t. HasCalls x.id t (calls_of z (stops x.id))) aboard.status (serves.calls z aboard.rider aboard.found)) refl

    abbrev task : Task
    task = vehicle_task settings.dwell (vehicle_at settled k) (kept_legs settings.wait b.riders settled.riders (promised_to (vehicle_at settled k).id b.riders))

    abbrev order : List Stop
    order = map (number_of names passenger_names) (stops x.id)

    legs_length : length (kept_legs settings.wait b.riders settled.riders numbers) ≡ length numbers
    legs_length = length-map numbers (λ n. kept_leg settings.wait (request_at b.riders n) (get_or settled.riders n no_rider).leg)

    is_order : IsOrder (length (kept_legs settings.wait b.riders settled.riders numbers)) (length (vehicle_at settled k).aboard.items) order
    is_order =
        let a : length names ≡ length (kept_legs settings.wait b.riders settled.riders numbers) = names_length ∙ sym legs_length in
        let c : length passenger_names ≡ length (vehicle_at settled k).aboard.items = passengers_length ∙ sym placed.aboard_count in
        subst (λ n. IsOrder n (length (vehicle_at settled k).aboard.items) order) a
        (subst (λ m. IsOrder (length names) m order) c (numbers_are_order names passenger_names
        (ids_distinct b.riders shows.rise (promised_to (vehicle_at settled k).id b.riders) trip)
        (distinct_from_differ (λ (p : Passenger). p.rider) x.aboard.items passengers_differ) names_apart (stops x.id) stops_numbered rides leaves))

    -- each stop is seen by the task as what it is
    seen_pick : (stop : PlannedStop) → stop.pick ≡ true → has_node names stop.rider ≡ true → IsRightPickup settings.wait s.riders x.id stop →
        IsSeen points s.riders stop (visit_at task (number_of names passenger_names stop))
    seen_pick stop pick has own =
        let place = named stop.rider has in
        let n : ℕ = get_or numbers place.0 0 in
        let h : get_or numbers place.0 0 < length b.riders = number_within place.0 place.1 in
        let same : place.2.rider ≡ own.rider = cc (place.2.found, own.found) in
        let promise : place.2.promise ≡ record { vehicle = x.id; pickup = stop.second } = cc (place.2.status, same, own.status) in
        let is : request_at b.riders (get_or numbers place.0 0) ≡ shown own.rider (Some (record { vehicle = x.id; pickup = stop.second })) =
        place.2.is ∙ ap (λ r. shown r (Some place.2.promise)) same ∙ ap (λ p. shown own.rider (Some p)) promise in
        let leg = limits.legs (get_or numbers place.0 0) (request_at b.riders (get_or numbers place.0 0))
        (slice_get-get_or b.riders (get_or numbers place.0 0) no_request h) in
        let leg' : IsLegOf settings points (travel_time times) own.rider.origin own.rider.destination own.rider.time own.rider.party
        (record (rider_at settled (get_or numbers place.0 0)).leg { latest_pickup = (request_at b.riders (get_or numbers place.0 0)).time + settings.wait })
        =
        subst (λ (q : Rider). IsLegOf settings points (travel_time times) q.origin q.destination q.time q.party
        (record (rider_at settled (get_or numbers place.0 0)).leg {
          latest_pickup = (request_at b.riders (get_or numbers place.0 0)).time + settings.wait;
        })) is leg in
        let limit : promised_limit settings.wait (request_at b.riders (get_or numbers place.0 0)) ≡ min stop.second (own.rider.time + settings.wait) =
        ap (promised_limit settings.wait) is in
        let in_time : stop.second ≤ promised_limit settings.wait (request_at b.riders (get_or numbers place.0 0)) =
        subst (λ n. stop.second ≤ n) (sym limit) (omega (arith, own.in_time)) in
        let leg_is : leg_at task.riders.items place.0 ≡ kept_leg settings.wait (request_at b.riders (get_or numbers place.0 0))
        (rider_at settled (get_or numbers place.0 0)).leg =
        get_or-map (λ n. kept_leg settings.wait (request_at b.riders n) (get_or settled.riders n no_rider).leg) numbers place.0 0 no_leg place.1 in
        let visit : visit_at task (number_of names passenger_names stop) ≡ Pickup (rider_at settled (get_or numbers place.0 0)).leg.origin
        (promised_limit settings.wait (request_at b.riders (get_or numbers place.0 0))) (rider_at settled (get_or numbers place.0 0)).leg.party =
        ap (visit_at task) (number_picks names passenger_names stop pick) ∙ ap (λ i. visit_at task (Pick i)) place.3 ∙
        ap (λ leg. Pickup leg.origin leg.latest_pickup leg.party) leg_is in
        subst (IsSeen points s.riders stop) (sym visit)
        (leg_pick settings points times s.riders own.rider (record (rider_at settled (get_or numbers place.0 0)).leg
        { latest_pickup = (request_at b.riders (get_or numbers place.0 0)).time + settings.wait })
        (promised_limit settings.wait (request_at b.riders (get_or numbers place.0 0))) stop leg' pick own.node own.found in_time)

    seen_drop : (stop : PlannedStop) → stop.pick ≡ false → has_node names stop.rider ≡ true → has_node passenger_names stop.rider ≡ false →
        IsRightDropoff roads settings.delay s.riders x.id stop → IsSeen points s.riders stop (visit_at task (number_of names passenger_names stop))
    seen_drop stop drop has none own =
        let place = named stop.rider has in
        let h : get_or numbers place.0 0 < length b.riders = number_within place.0 place.1 in
        let same : place.2.rider ≡ own.rider = cc (place.2.found, own.found) in
        let is : request_at b.riders (get_or numbers place.0 0) ≡ shown own.rider (Some place.2.promise) = place.2.is ∙
        ap (λ r. shown r (Some place.2.promise)) same in
        let leg = limits.legs (get_or numbers place.0 0) (request_at b.riders (get_or numbers place.0 0))
        (slice_get-get_or b.riders (get_or numbers place.0 0) no_request h) in
        let leg' : IsLegOf settings points (travel_time times) own.rider.origin own.rider.destination own.rider.time own.rider.party
        (record (rider_at settled (get_or numbers place.0 0)).leg { latest_pickup = (request_at b.riders (get_or numbers place.0 0)).time + settings.wait })
        =
        subst (λ (q : Rider). IsLegOf settings points (travel_time times) q.origin q.destination q.time q.party
        (record (rider_at settled (get_or numbers place.0 0)).leg {
          latest_pickup = (request_at b.riders (get_or numbers place.0 0)).time + settings.wait;
        })) is leg in
        let leg_is : leg_at task.riders.items place.0 ≡ kept_leg settings.wait (request_at b.riders (get_or numbers place.0 0))
        (rider_at settled (get_or numbers place.0 0)).leg =
        get_or-map (λ n. kept_leg settings.wait (request_at b.riders n) (get_or settled.riders n no_rider).leg) numbers place.0 0 no_leg place.1 in
        let visit : visit_at task (number_of names passenger_names stop) ≡ Dropoff (rider_at settled (get_or numbers place.0 0)).leg.destination
        (rider_at settled (get_or numbers place.0 0)).leg.latest_dropoff (rider_at settled (get_or numbers place.0 0)).leg.ideal
        (rider_at settled (get_or numbers place.0 0)).leg.party =
        ap (visit_at task) (number_drops names passenger_names stop drop none) ∙ ap (λ i. visit_at task (Drop i)) place.3 ∙
        ap (λ leg. Dropoff leg.destination leg.latest_dropoff leg.ideal leg.party) leg_is in
        subst (IsSeen points s.riders stop) (sym visit)
        (leg_drop settings roads points times table s.riders own.rider (record (rider_at settled (get_or numbers place.0 0)).leg
        { latest_pickup = (request_at b.riders (get_or numbers place.0 0)).time + settings.wait }) stop leg' drop own.node own.found own.in_time)

    seen_alight : (stop : PlannedStop) → stop.pick ≡ false → has_node passenger_names stop.rider ≡ true →
        IsRightDropoff roads settings.delay s.riders x.id stop → IsSeen points s.riders stop (visit_at task (number_of names passenger_names stop))
    seen_alight stop drop has own =
        let there = passenger_at_name stop.rider has in
        let aboard = there.1 in
        let same : aboard.rider ≡ own.rider = cc (aboard.found, own.found) in
        let is : get_or x.aboard.items (index_in passenger_names stop.rider) no_passenger ≡ passenger_of own.rider = sym aboard.is ∙ ap passenger_of same in
        let leg = placed.aboard_legs (index_in passenger_names stop.rider) (get_or x.aboard.items (index_in passenger_names stop.rider) no_passenger)
        (slice_get-get_or x.aboard.items (index_in passenger_names stop.rider) no_passenger there.0) in
        let leg' : IsLegOf settings points (travel_time times) own.rider.origin own.rider.destination own.rider.time own.rider.party
        (leg_at (vehicle_at settled k).aboard.items (index_in passenger_names stop.rider)) =
        subst (λ (p : Passenger). IsLegOf settings points (travel_time times) p.origin p.destination p.time p.party
        (leg_at (vehicle_at settled k).aboard.items (index_in passenger_names stop.rider))) is leg in
        subst (IsSeen points s.riders stop) (sym (ap (visit_at task) (number_alights names passenger_names stop drop has)))
        (leg_drop settings roads points times table s.riders own.rider (leg_at (vehicle_at settled k).aboard.items (index_in passenger_names stop.rider)) stop
        leg' drop own.node own.found own.in_time)

    seen : AllByRecursion (λ stop. IsSeen points s.riders stop (visit_at task (number_of names passenger_names stop))) (stops x.id)
    seen = all_weaker (λ stop. IsRightStop settings roads s.riders x.id stop × IsNumbered names passenger_names stop)
        (λ stop. IsSeen points s.riders stop (visit_at task (number_of names passenger_names stop)))
        (λ stop h. by stop h.0 h.1) (stops x.id) (both (IsRightStop settings roads s.riders x.id) (IsNumbered names passenger_names) (stops x.id) serves.right
        stops_numbered)
      where
        by : (stop : PlannedStop) → IsRightStop settings roads s.riders x.id stop → IsNumbered names passenger_names stop →
            IsSeen points s.riders stop (visit_at task (number_of names passenger_names stop))
        by stop right (IsNumbered.picks pick has) = seen_pick stop pick has (picked_up_right settings roads s.riders x.id stop pick right)
        by stop right (IsNumbered.drops drop has none) = seen_drop stop drop has none (dropped_right settings roads s.riders x.id stop drop right)
        by stop right (IsNumbered.alights drop has) = seen_alight stop drop has (dropped_right settings roads s.riders x.id stop drop right)

    ready_is : (vehicle_at settled k).ready ≡ x.time
    ready_is = let a : (vehicle_at settled k).ready ≡ max x.time b.sealed_at = placed.ready in let e = early x.id x vehicle_found in omega (arith, a, e)

    room_is : x.seats - persons_aboard x ≡ free_seats task
    room_is = omega (
      arith,
      same_persons (vehicle_at settled k).aboard.items x.aboard.items placed.aboard_count (λ k p e. (placed.aboard_legs k p e).size),
      placed.seats,
    )

    in_time : ServesFrom (travel_time times) settings.dwell (vehicle_at settled k).start (vehicle_at settled k).ready (free_seats task) (visits_of task order)
    in_time =
        subst (λ vs. ServesFrom (travel_time times) settings.dwell (vehicle_at settled k).start (vehicle_at settled k).ready (free_seats task) vs)
        (sym (map-map (visit_at task) (number_of names passenger_names) (stops x.id)))
        (subst (λ f. ServesFrom (travel_time times) settings.dwell (vehicle_at settled k).start f (free_seats task)
        (map (λ stop. visit_at task (number_of names passenger_names stop)) (stops x.id))) (sym ready_is)
        (subst (λ r. ServesFrom (travel_time times) settings.dwell (vehicle_at settled k).start x.time r
        (map (λ stop. visit_at task (number_of names passenger_names stop)) (stops x.id))) room_is
        (serves_by_table roads points times table s.riders settings.dwell (λ stop. visit_at task (number_of names passenger_names stop)) (stops x.id)
        (vehicle_at settled k).start x.node x.time (x.seats - persons_aboard x) placed.start serves.reached serves.seats seen)))

    -- the stops serve the passengers and all who are promised to the vehicle
    pub promised_served : IsServable (travel_time times) (vehicle_task settings.dwell (vehicle_at settled k)
        (kept_legs settings.wait b.riders settled.riders (promised_to (vehicle_at settled k).id b.riders)))
    promised_served = (order, record { order = is_order; in_time = in_time })

    -- and, without their stops, the passengers alone
    pub passengers_served : IsServable (travel_time times) (vehicle_task settings.dwell (vehicle_at settled k) [])
    unfolding alights_only
    passengers_served = (
      filter alights_only order,
      record {
        order = passengers_order (length (kept_legs settings.wait b.riders settled.riders numbers)) (length (vehicle_at settled k).aboard.items) order is_order;
        in_time = subst (λ vs. ServesFrom (travel_time times) settings.dwell (vehicle_at settled k).start (vehicle_at settled k).ready (free_seats task) vs)
            alone
            (sub_serves times.points (travel_time times) settings.dwell (visit_at task) alights_only times.table.times nobody order (vehicle_at settled k).start
            (vehicle_at settled k).ready (free_seats task) (vehicle_at settled k).start (vehicle_at settled k).ready (free_seats task)
            (soon_there (travel_time times) (vehicle_at settled k).start (vehicle_at settled k).ready (vehicle_at settled k).ready (omega arith)) in_time);
      },
    )
      where
        nobody : (stop : Stop) → alights_only stop ≡ true → boarding_of (visit_at task stop) ≡ 0
        nobody (Pick i) e = absurd (false≢true e)
        nobody stop e = refl

        alone : map (visit_at task) (filter alights_only order) ≡ visits_of (vehicle_task settings.dwell (vehicle_at settled k) []) (filter alights_only order)
        alone = map_agrees (visit_at task) (visit_at (vehicle_task settings.dwell (vehicle_at settled k) [])) (λ stop. Unit {0} × (alights_only stop ≡ true))
            (λ stop h. same stop h.1) (filter alights_only order)
            (all_filtered (λ stop. Unit {0}) alights_only order (all_from (λ stop. Unit {0}) (λ stop. tt) order))
          where
            same : (stop : Stop) → alights_only stop ≡ true → visit_at task stop ≡ visit_at (vehicle_task settings.dwell (vehicle_at settled k) []) stop
            same (Alight j) e = refl
            same stop e = absurd (false≢true e)

    -- the vehicle is live for whoever is promised to it
    pub few_promised : length (promised_to (vehicle_at settled k).id b.riders) ≤ settings.trip
    few_promised =
        let two : 2 * length (kept_legs settings.wait b.riders settled.riders numbers) + length (vehicle_at settled k).aboard.items ≤ length order =
        order_length (length (kept_legs settings.wait b.riders settled.riders numbers)) (length (vehicle_at settled k).aboard.items) order is_order in
        omega (arith, two, length-map (stops x.id) (number_of names passenger_names), serves.few, legs_length, placed.aboard_count)
