-- A close with a good plan on a driven day: the chosen trips are what the vehicles now serve, and the state after it is kept.
use Rattle.std.proofs.Common.{
  ◌≡◌,
  ◌⊎◌,
  ℕ,
  ◌+◌,
  ◌<◌,
  ◌≤◌,
  Bool,
  true,
  false,
  cond,
  List,
  [],
  ◌∷◌,
  length,
  get_or,
  map,
  Option,
  Some,
  None,
  refl,
  sym,
  ap,
  ◌∙◌,
  subst,
  arith,
  inl,
  inr,
  slice_get,
  is_some,
  option_map,
  unwrap_or,
  ◌&&◌,
  ◌-◌,
  ◌*◌,
  MatchBool,
  max,
  zero,
  suc,
  Contains,
  rules,
}
use Rattle.route_drive.proofs.Common.{
  AllByRecursion,
  cases_Bool,
  slice_get_within,
  get_or_from_slice_get,
  slice_get-get_or,
  travel_time,
  Times,
  Batch,
  Promise,
  Rider,
  Vehicle,
  HasGraphsWith,
  IsGoodPlan,
  request_at,
  IsSettled,
  shown,
  find_rider,
  find_vehicle,
  PlannedStop,
  Planned,
  State,
  Settings,
  Roads,
  index_in,
  Settled,
  vehicle_at,
  rider_at,
  AreTravelTimes,
  IsKept,
  option_map_or,
  cases_lt,
  false≢true,
  get_or-map,
  length-map,
  persons_aboard,
  Passenger,
  rider_id,
  told_stop,
  IsTripOf,
  times_served_some,
  times_served_found,
  in_choice,
  choice_at,
  riders_at,
  is_in,
  IsLegOf,
  no_request,
  IsPlaced,
  picks,
  trip_picks,
  after_plan,
  in_batch,
  planned_status,
  look_up,
  KeysDiffer,
  with_status,
  is_active,
  ChosenTrip,
  BookRider,
  Status,
  Waiting,
  Promised,
  Aboard,
  look_up-at,
  KeysDiffer-from_rise,
  has_node,
  Leg,
  Stop,
  Pick,
  Drop,
  Alight,
  IsKnown,
  trip_task,
  no_leg,
  leg_at,
  visit_at,
  free_seats,
  calls_of,
  and_from,
  and_parts,
  cond-true,
  times_chosen,
  ideal_second,
  Task,
  look_up-map,
  look_up-key,
  latest_of,
  Visit,
  ideal_dropoff,
  IsDroppedInTime,
  AreReached,
  party_at,
  HasSeatsFor,
  IsRightPickup,
  IsRightDropoff,
  IsRightStop,
  IsOfVehicle,
  HasCalls,
  IsServing,
  ShowsRiders,
  get_or_default,
  is_promised_to,
  Delivered,
  MatchBool-at_false,
  must_be_served,
  IsPromiseKept,
  step,
  Command,
  Reply,
  chosen_stops,
  IsBoundBy,
  IsBound,
  KeepsBounds,
  eq-eqb,
  true≢false,
  lt-ltb,
  gets,
  nat_tests,
}
use Rattle.route_drive.proofs.kept.Batches.{found_at, same_place, IsAsking, IsRiderAboard, same_persons, other_id}
use Rattle.route_drive.proofs.kept.Served.{passenger_at, request_rider, vehicle_found}
use Rattle.route_drive.proofs.kept.Trips.{
  vehicle_of_number,
  not_late,
  number_of_vehicle,
  promise_is_held,
  trip_of,
  trip_back,
  trip_is,
  one_trip,
  told_id,
  row_of,
  rider_aboard,
  known,
  member_calls,
  passenger_calls,
  other_calls,
}
use Rattle.route_drive.proofs.kept.Told.{
  told_from,
  none_promised,
  one_promised,
  IsPickPromised,
  found_among,
  none_among,
  IsTold,
  told_reached,
  told_seats,
  told_all,
  told_length,
}
use Rattle.route_drive.proofs.kept.Walks.{has_index, name_at, is_node_at}
use Rattle.request_book.specs.register.Closing.{Pick as PlanPick}
use Rattle.request_book.proofs.lemmas.register.CloseLemmas.{after_plan-id}
use Rattle.stop_orders.proofs.lemmas.task.DoneLemmas.{length-IsOrder}
use Rattle.route_drive.proofs.kept.Lists.{all_weaker, both}
use Rattle.route_drive.proofs.kept.Riders.{found_id}
use Rattle.route_drive.proofs.kept.Tables.{time_between}
use Rattle.route_drive.proofs.kept.States.{stepped, vehicle_id}
use Rattle.route_drive.proofs.kept.Sealing.{first_call}
use Rattle.trip_graph.specs.batch.Answer.{IsRowWith}
use Rattle.dispatch_engine.specs.declared.outcome.point.Point.TheVariants as point

all_each : {A X : Type 0} (P : A → X → Type 0) (xs : List X) → ((a : A) → AllByRecursion (P a) xs) → AllByRecursion (λ x. (a : A) → P a x) xs
all_each P [] each = tt
all_each P (x ∷ xs) each = (λ a. (each a).0, all_each P xs (λ a. (each a).1))

in_points : (points : List ℕ) (o n : ℕ) → slice_get points o ≡ Some n → slice_get points o ≡ Some (get_or points o 0)
in_points points o n e = grind (arith, gets)

-- whoever isn't of the batch, or isn't in the pool, stays; the others get what was planned
pub after_is : (batch : List Rider) (ps : List PlanPick) (r : BookRider) → is_active r.status ≡ true → in_batch batch r.id ≡ true →
    after_plan batch ps r ≡ with_status (planned_status ps r.id) r
after_is batch ps r active among = cond-true (is_active r.status && in_batch batch r.id) (with_status (planned_status ps r.id) r) r
    (and_from (is_active r.status) (in_batch batch r.id) active among)

pub after_stays : (batch : List Rider) (ps : List PlanPick) (r : BookRider) → is_active r.status ≡ false → after_plan batch ps r ≡ r
after_stays batch ps r active = rw active refl

-- the element of a key, where no other has it
look_up_only : {X : Type 0} (key : X → ℕ) (xs : List X) (i : ℕ) (x : X) → slice_get xs i ≡ Some x →
    ((j : ℕ) (y : X) → slice_get xs j ≡ Some y → key y ≡ key x → j ≡ i) → look_up key (key x) xs ≡ Some x
unfolding look_up
look_up_only key [] i x at only = absurd cc
look_up_only key (y ∷ ys) zero x at only = grind (arith, nat_tests)
look_up_only key (y ∷ ys) (suc i) x at only = grind (arith, nat_tests, only 0 y refl, look_up_only key ys i x at (λ j z e k. omega (arith, only (suc j) z e k)))

-- a request of the batch by its rider's id
number_in_batch : (batch : List Rider) (id : ℕ) → in_batch batch id ≡ true → (n : ℕ) × (n < length batch) × ((request_at batch n).id ≡ id)
number_in_batch batch id among = search (rules, is_some, found_at, no_request, look_up-key)

module _ (settings : Settings) (roads : Roads) (s : State) (stops : ℕ → List PlannedStop) (b : Batch) (settled : Settled) (points : List ℕ) (times : Times)
    (kept : IsKept settings roads s stops) (shows : ShowsRiders s b) (early : (id : ℕ) (v : Vehicle) → find_vehicle id s.vehicles ≡ Some v →
    b.sealed_at ≤ v.time)
    (limits : IsSettled settings points (travel_time times) b settled) (table : AreTravelTimes roads.arcs (map (index_in roads.nodes) points) times)
    (planned : Planned) (good : HasGraphsWith settings points (travel_time times) settled (IsGoodPlan settings planned)) where
  abbrev pub ps : List PlanPick
  ps = picks planned.chosen

  abbrev pub riders' : List BookRider
  riders' = map (after_plan b.riders (picks planned.chosen)) s.riders

  pub find_planned : (z : ℕ) → find_rider z riders' ≡ option_map (after_plan b.riders (picks planned.chosen)) (find_rider z s.riders)
  find_planned z = look_up-map (λ (r : BookRider). r.id) (after_plan b.riders (picks planned.chosen)) (after_plan-id b.riders (picks planned.chosen)) z s.riders

  -- a request of the batch, whose rider gets what was planned for the id
  pub planned_rider : (n : ℕ) → n < length b.riders → (r : BookRider) × (find_rider (request_at b.riders n).id s.riders ≡ Some r) × IsAsking b.sealed_at r
      (request_at b.riders n)
      × (find_rider (request_at b.riders n).id riders' ≡ Some (with_status (planned_status (picks planned.chosen) (request_at b.riders n).id) r))
  planned_rider n h =
      let of = request_rider settings roads s stops b settled points times kept shows early limits table n h in
      let id : of.0.id ≡ (request_at b.riders n).id = found_id (request_at b.riders n).id s.riders of.0 of.1 in
      let active : is_active of.0.status ≡ true = ap is_some of.2.pool in
      let at : look_up (λ (r : Rider). r.id) (request_at b.riders n).id b.riders ≡ Some (request_at b.riders n) =
      look_up-at (λ (r : Rider). r.id) n b.riders no_request (KeysDiffer-from_rise (λ (r : Rider). r.id) b.riders shows.rise) h in
      let among : in_batch b.riders of.0.id ≡ true = ap is_some (ap (λ z. look_up (λ (r : Rider). r.id) z b.riders) id ∙ at) in (
        of.0,
        of.1,
        of.2,
        find_planned (request_at b.riders n).id ∙ ap (option_map (after_plan b.riders (picks planned.chosen))) of.1
            ∙ ap Some (after_is b.riders (picks planned.chosen) of.0 active among ∙ ap (λ z. with_status (planned_status (picks planned.chosen) z) of.0) id),
      )

  -- a vehicle of a number, with its trip
  pub record HasTrip (k : ℕ) : Type 0 where
    pub within : k < length settled.vehicles
    pub x : Vehicle
    pub at : slice_get b.vehicles k ≡ Some x
    pub t : ChosenTrip
    pub chosen : slice_get planned.chosen k ≡ Some t
    pub is : IsTripOf points (travel_time times) settled good.graph (good.holds point.Plan).chosen k t

  pub has_trip : (k : ℕ) → k < length settled.vehicles → HasTrip k
  has_trip k h =
      let x = vehicle_of_number settings roads s stops b settled points times kept shows early limits table k h in
      let t = trip_of settings roads s stops b settled points times kept shows early limits table planned good k h in
      record { within = h; x = x.0; at = x.1; t = t.0; chosen = t.1; is = t.2 }

  pub trip_vehicle : (k : ℕ) (own : HasTrip k) → own.t.vehicle ≡ own.x.id
  trip_vehicle k own = own.is.vehicle ∙ (limits.placed k own.x own.at).id

  -- a rider of the trip is promised by it
  pub member_promised : (k : ℕ) (own : HasTrip k) (i : ℕ) → (h : i < length (riders_at good.graph own.is.row)) →
      IsPickPromised (request_at b.riders (get_or (riders_at good.graph own.is.row) i 0)).id own.t.vehicle own.t.stops.items
  member_promised k own i h = search (rules, one_promised, member_calls)

  member_low : (k : ℕ) (own : HasTrip k) (i : ℕ) → i < length (riders_at good.graph own.is.row) → get_or (riders_at good.graph own.is.row) i 0 < length b.riders
  member_low k own i h = (trip_is settings roads s stops b settled points times kept shows early limits table planned good k own.is.row own.within
      own.is.chooses).0.within i 0 h

  -- a request that isn't in a trip has no pickup in it
  out_of_trip : (j : ℕ) (u : ChosenTrip) (r : ℕ) → slice_get planned.chosen j ≡ Some u → r < length b.riders →
      ((row : ℕ) → choice_at (good.holds point.Plan).chosen j ≡ Some row → has_node (riders_at good.graph row) r ≡ true → ⊥)
      → look_up (λ (p : PlanPick). p.rider) (request_at b.riders r).id (trip_picks u.vehicle u.stops.items) ≡ None
  out_of_trip j u r e low out =
      let back = trip_back settings roads s stops b settled points times kept shows early limits table planned good j u e in
      let x = vehicle_of_number settings roads s stops b settled points times kept shows early limits table j back.0 in
      let none : has_node (riders_at good.graph back.1.row) r ≡ false = elim (cases_Bool (has_node (riders_at good.graph back.1.row) r))
      [ inl t ↦ absurd (out back.1.row back.1.chooses t) | inr f ↦ f ] in
      none_promised (request_at b.riders r).id u.vehicle u.stops.items
      (subst (λ bs. AllByRecursion (λ b. b ≡ false) bs)
      (sym (other_calls settings roads s stops b settled points times kept shows early limits table planned good j back.0 x.0 x.1 u back.1 r low none)) tt)

  -- what is planned for a rider of a trip, and for one of none
  pub member_status : (k : ℕ) (own : HasTrip k) (i : ℕ) (h : i < length (riders_at good.graph own.is.row))
      → planned_status (picks planned.chosen) (request_at b.riders (get_or (riders_at good.graph own.is.row) i 0)).id ≡ Promised
      (record { vehicle = own.x.id; pickup = (member_promised k own i h).second })
  unfolding picks trip_picks
  member_status k own i h =
      let has : has_node (riders_at good.graph own.is.row) (get_or (riders_at good.graph own.is.row) i 0) ≡ true =
      is_node_at (riders_at good.graph own.is.row) i h in
      let found : look_up (λ (p : PlanPick). p.rider) (request_at b.riders (get_or (riders_at good.graph own.is.row) i 0)).id (picks planned.chosen)
      ≡ Some (record {
        rider = (request_at b.riders (get_or (riders_at good.graph own.is.row) i 0)).id;
        promise =
            record { vehicle = own.t.vehicle; pickup = (member_promised k own i h).second };
      }) =
      found_among (λ (p : PlanPick). p.rider) (request_at b.riders (get_or (riders_at good.graph own.is.row) i 0)).id
      (λ (t : ChosenTrip). trip_picks t.vehicle t.stops.items) planned.chosen k own.t own.chosen
      (λ j u e ne. out_of_trip j u (get_or (riders_at good.graph own.is.row) i 0) e (member_low k own i h) (λ row choose t.
      let back = trip_back settings roads s stops b settled points times kept shows early limits table planned good j u e in
      ne (one_trip settings roads s stops b settled points times kept shows early limits table planned good j k row own.is.row
      (get_or (riders_at good.graph own.is.row) i 0) back.0 own.within choose own.is.chooses t has)))
      ∙ (member_promised k own i h).found in
      ap (λ o. unwrap_or (option_map (λ (p : PlanPick). Promised p.promise) o) Waiting) found
      ∙ ap (λ v. Promised (record { vehicle = v; pickup = (member_promised k own i h).second })) (trip_vehicle k own)

  pub left_status : (r : ℕ) → r < length b.riders → ((k row : ℕ) → k < length settled.vehicles → choice_at (good.holds point.Plan).chosen k ≡ Some row →
      has_node (riders_at good.graph row) r ≡ true → ⊥)
      → planned_status (picks planned.chosen) (request_at b.riders r).id ≡ Waiting
  unfolding picks trip_picks
  left_status r low out =
      ap (λ o. unwrap_or (option_map (λ (p : PlanPick). Promised p.promise) o) Waiting)
      (none_among (λ (p : PlanPick). p.rider) (request_at b.riders r).id (λ (t : ChosenTrip). trip_picks t.vehicle t.stops.items) planned.chosen
      (λ j u e. out_of_trip j u r e low (λ row choose t. out j row (trip_back settings roads s stops b settled points times kept shows early limits table
      planned good j u e).0 choose t)))

  -- where a request is: in a trip, or in none
  pub data IsPlaced' (r : ℕ) : Type 0 where
    rides : (k : ℕ) (own : HasTrip k) (i : ℕ) → i < length (riders_at good.graph own.is.row) → get_or (riders_at good.graph own.is.row) i 0 ≡ r → IsPlaced' r
    stays : ((k row : ℕ) → k < length settled.vehicles → choice_at (good.holds point.Plan).chosen k ≡ Some row → has_node (riders_at good.graph row) r ≡ true →
        ⊥) → IsPlaced' r

  pub rides_once : (r : ℕ) → 1 ≤ times_chosen good.graph (good.holds point.Plan).chosen r → IsPlaced' r
  rides_once r h =
      let some = times_served_found good.graph (good.holds point.Plan).chosen good.graph.vehicles r h in
      let own = has_trip some.0 (omega (arith, good.exact.vehicle_total, some.1)) in
      let choice = in_choice good.graph (choice_at (good.holds point.Plan).chosen some.0) r some.2 in
      let same : choice.0 ≡ own.is.row = (let e : Some choice.0 ≡ Some own.is.row = sym choice.1 ∙ own.is.chooses in cc) in
      let has : has_node (riders_at good.graph own.is.row) r ≡ true = subst (λ row. has_node (riders_at good.graph row) r ≡ true) same choice.2 in
      rides some.0 own (index_in (riders_at good.graph own.is.row) r) (has_index (riders_at good.graph own.is.row) r has)
      (name_at (riders_at good.graph own.is.row) r (has_index (riders_at good.graph own.is.row) r has))

  pub where_is : (r : ℕ) → IsPlaced' r
  where_is r = elim (cases_lt 0 (times_chosen good.graph (good.holds point.Plan).chosen r)) [
    | inl some ↦ rides_once r (omega (arith, some))
    | inr none ↦ stays (λ k row h choose has.
        let one = times_served_some good.graph (good.holds point.Plan).chosen good.graph.vehicles r k (omega (arith, good.exact.vehicle_total, h))
        (ap (λ o. is_in good.graph o r) choose ∙ has) in
        omega (arith, one, none))
  ]

  -- the party of a stop is that of its rider
  party_is : (z : ℕ) (r : BookRider) (t : Status) (stop : PlannedStop) → stop.rider ≡ z → find_rider z riders' ≡ Some (with_status t r) →
      party_at riders' stop ≡ r.party
  party_is z r t stop e found = ap (λ z. option_map_or (λ (r : BookRider). r.party) (find_rider z riders') 0) e ∙
      ap (λ o. option_map_or (λ (r : BookRider). r.party) o 0) found

  -- a passenger's rider stays as they are
  passenger_stays : (z : ℕ) (r : BookRider) (v : ℕ) → find_rider z s.riders ≡ Some r → r.status ≡ Aboard v → find_rider z riders' ≡ Some r
  passenger_stays z r v found status = find_planned z ∙ ap (option_map (after_plan b.riders (picks planned.chosen))) found ∙
      ap Some (after_stays b.riders (picks planned.chosen) r (ap is_active status))

  -- whoever is promised something before the plan is in the batch
  promised_in_batch : (z : ℕ) (r : BookRider) (p : Promise) → find_rider z s.riders ≡ Some r → r.status ≡ Promised p → in_batch b.riders r.id ≡ true
  promised_in_batch z r p found status = search (rules, is_some, found_id)

  -- a rider after the plan: as before and without a promise, waiting, or promised by a trip
  data IsAfter (z : ℕ) (q : BookRider) : Type 0 where
    unchanged : find_rider z s.riders ≡ Some q → ((p : Promise) → q.status ≡ Promised p → ⊥) → IsAfter z q
    left_waiting : q.status ≡ Waiting → IsAfter z q
    on_trip : (j : ℕ) (other : HasTrip j) (i : ℕ) (h : i < length (riders_at good.graph other.is.row)) →
        (request_at b.riders (get_or (riders_at good.graph other.is.row) i 0)).id ≡ z
        → q.status ≡ Promised (record { vehicle = other.x.id; pickup = (member_promised j other i h).second }) → q.time ≤ b.sealed_at → IsAfter z q

  after_plan_is : (z : ℕ) (q : BookRider) → find_rider z riders' ≡ Some q → IsAfter z q
  after_plan_is z q e = by (find_rider z s.riders) refl (sym (find_planned z) ∙ e)
    where
      asks : (r : BookRider) → find_rider z s.riders ≡ Some r → (n : ℕ) → n < length b.riders → (request_at b.riders n).id ≡ r.id → IsPlaced' n →
          IsAfter z (with_status (planned_status (picks planned.chosen) r.id) r)
      asks r f n low name (stays out) = left_waiting (ap (planned_status (picks planned.chosen)) (sym name) ∙ left_status n low out)
      asks r f n low name (rides j other i h at) =
          let of = planned_rider n low in
          let id : (request_at b.riders n).id ≡ z = name ∙ found_id z s.riders r f in
          let same : of.0 ≡ r = cc (id, of.1, f) in
          on_trip j other i h (ap (λ m. (request_at b.riders m).id) at ∙ id)
          (ap (planned_status (picks planned.chosen)) (sym name) ∙ ap (λ m. planned_status (picks planned.chosen) (request_at b.riders m).id) (sym at) ∙
          member_status j other i h)
          (subst (λ (r : BookRider). r.time ≤ b.sealed_at) same of.2.asked)

      with_r : (r : BookRider) → find_rider z s.riders ≡ Some r → (o : Bool) → (is_active r.status && in_batch b.riders r.id) ≡ o →
          IsAfter z (cond o (with_status (planned_status (picks planned.chosen) r.id) r) r)
      with_r r f true g = let n = number_in_batch b.riders r.id (and_parts (is_active r.status) (in_batch b.riders r.id) g).1 in asks r f n.0 n.1 n.2
          (where_is n.0)
      with_r r f false g = unchanged f (λ p t. true≢false
          (sym (and_from (is_active r.status) (in_batch b.riders r.id) (ap is_active t) (promised_in_batch z r p f t)) ∙ g))

      by : (o : Option BookRider) → find_rider z s.riders ≡ o → option_map (after_plan b.riders (picks planned.chosen)) o ≡ Some q → IsAfter z q
      by None f g = absurd cc
      by (Some r) f g = let is : after_plan b.riders (picks planned.chosen) r ≡ q = cc in subst (IsAfter z) is
          (with_r r f (is_active r.status && in_batch b.riders r.id) refl)

  module _ (k : ℕ) (own : HasTrip k) where
    abbrev trip : List ℕ
    trip = riders_at good.graph own.is.row

    abbrev task : Task
    task = trip_task settled k (riders_at good.graph own.is.row)

    abbrev vis : Stop → Visit
    vis = visit_at (trip_task settled k (riders_at good.graph own.is.row))

    abbrev told : Stop × ℕ → PlannedStop
    told = told_stop points settled k (riders_at good.graph own.is.row)

    abbrev KnownStop : Stop → Type 0
    KnownStop stop = IsKnown (length (riders_at good.graph own.is.row)) (length own.x.aboard.items) stop

    all_known : AllByRecursion (IsKnown (length (riders_at good.graph own.is.row)) (length own.x.aboard.items)) own.is.stops
    all_known = known settings roads s stops b settled points times kept shows early limits table planned good k own.within own.x own.at own.t own.is

    placed : IsPlaced settings points (travel_time times) b.sealed_at own.x (vehicle_at settled k)
    placed = limits.placed k own.x own.at

    leg_is : (i : ℕ) → i < length trip → leg_at (map (λ r. (rider_at settled r).leg) trip) i ≡ (rider_at settled (get_or trip i 0)).leg
    leg_is i h = get_or-map (λ r. (rider_at settled r).leg) trip i 0 no_leg h

    -- the leg of a member of the trip, for their rider
    pub record HasLeg (n : ℕ) (leg : Leg) : Type 0 where
      pub r : BookRider
      pub found : find_rider (request_at b.riders n).id s.riders ≡ Some r
      pub now_found : find_rider (request_at b.riders n).id riders' ≡ Some (with_status (planned_status (picks planned.chosen) (request_at b.riders n).id) r)
      pub origin : slice_get points leg.origin ≡ Some r.origin
      pub destination : slice_get points leg.destination ≡ Some r.destination
      pub ideal : leg.ideal ≡ ideal_second (travel_time times) r.time leg.origin leg.destination
      pub latest_dropoff : leg.latest_dropoff ≡ leg.ideal + settings.delay
      pub party : leg.party ≡ r.party
      pub latest_pickup : leg.latest_pickup ≤ r.time + settings.wait

    limit_low : (n : ℕ) → n < length settled.riders → (rider_at settled n).leg.latest_pickup ≤ (request_at b.riders n).time + settings.wait
    limit_low n h = grind (arith, nat_tests, limits.limits n h)

    pub member_leg : (i : ℕ) → i < length trip → HasLeg (get_or trip i 0) (leg_at (map (λ r. (rider_at settled r).leg) trip) i)
    member_leg i h =
        let low : get_or trip i 0 < length b.riders = member_low k own i h in
        let of = planned_rider (get_or trip i 0) low in
        let leg = limits.legs (get_or trip i 0) (request_at b.riders (get_or trip i 0)) (slice_get-get_or b.riders (get_or trip i 0) no_request low) in
        let is : request_at b.riders (get_or trip i 0) ≡ shown of.0 of.2.promise = of.2.is in
        subst (HasLeg (get_or trip i 0)) (sym (leg_is i h)) (record {
          r = of.0;
          found = of.1;
          now_found = of.3;
          origin = leg.origin_place ∙ ap (λ (q : Rider). Some q.origin) is;
          destination = leg.destination_place ∙ ap (λ (q : Rider). Some q.destination) is;
          ideal = leg.ideal ∙ ap (λ (q : Rider). ideal_second (travel_time times) q.time (rider_at settled (get_or trip i 0)).leg.origin
              (rider_at settled (get_or trip i 0)).leg.destination) is;
          latest_dropoff = leg.latest_dropoff;
          party = leg.size ∙ ap (λ (q : Rider). q.party) is;
          latest_pickup = let l = limit_low (get_or trip i 0) (omega (arith, low, limits.rider_count)) in subst
              (λ m. (rider_at settled (get_or trip i 0)).leg.latest_pickup ≤ m + settings.wait) (ap (λ (q : Rider). q.time) is) l;
        })

    told_name : (i : ℕ) → i < length trip → rider_id settled (get_or trip i 0) ≡ (request_at b.riders (get_or trip i 0)).id
    told_name i h = told_id settings roads s stops b settled points times kept shows early limits table planned good (get_or trip i 0) (member_low k own i h)

    -- the passenger of a number, with the rider
    aboard_at : (j : ℕ) → j < length own.x.aboard.items → IsRiderAboard s own.x.id (get_or (map (λ (p : Passenger). p.rider) own.x.aboard.items) j 0)
        (get_or own.x.aboard.items j (record { rider = 0; origin = 0; destination = 0; time = 0; party = 0 }))
    aboard_at j h = rider_aboard settings roads s stops b settled points times kept shows early limits table planned good k own.within own.x own.at own.t own.is
        j h

    told_aboard : (j : ℕ) → get_or (vehicle_at settled k).aboard_ids.items j 0 ≡ get_or (map (λ (p : Passenger). p.rider) own.x.aboard.items) j 0
    told_aboard j = ap (λ ids. get_or ids j 0) placed.aboard_ids

    passenger_leg : (j : ℕ) → (h : j < length own.x.aboard.items) → IsLegOf settings points (travel_time times) (aboard_at j h).rider.origin
        (aboard_at j h).rider.destination (aboard_at j h).rider.time (aboard_at j h).rider.party (leg_at (vehicle_at settled k).aboard.items j)
    passenger_leg j h =
        subst (λ (p : Passenger). IsLegOf settings points (travel_time times) p.origin p.destination p.time p.party
        (leg_at (vehicle_at settled k).aboard.items j)) (sym (aboard_at j h).is)
        (placed.aboard_legs j (get_or own.x.aboard.items j (record { rider = 0; origin = 0; destination = 0; time = 0; party = 0 }))
        (slice_get-get_or own.x.aboard.items j (record { rider = 0; origin = 0; destination = 0; time = 0; party = 0 }) h))

    -- the visits of the trip are what is told of them
    are_told : AllByRecursion (IsTold points riders' vis told) own.is.stops
    are_told = all_weaker KnownStop (IsTold points riders' vis told) by own.is.stops all_known
      where
        by : (stop : Stop) → KnownStop stop → IsTold points riders' vis told stop
        by (Pick i) h =
            let leg = member_leg i h in
            let party : (second : ℕ) → party_at riders' (told (Pick i, second)) ≡ leg.r.party =
            λ second. party_is (request_at b.riders (get_or trip i 0)).id leg.r (planned_status (picks planned.chosen)
            (request_at b.riders (get_or trip i 0)).id) (told (Pick i, second)) (told_name i h) leg.now_found in
            let same = leg.party in
            record {
              second = λ second. refl;
              pick = λ second. refl;
              node = λ second. in_points points (leg_at (map (λ r. (rider_at settled r).leg) trip) i).origin leg.r.origin leg.origin;
              boards = λ second pick. same ∙ sym (party second);
              room = λ second room. ap (λ n. room - n) (same ∙ sym (party second));
            }
        by (Drop i) h =
            let leg = member_leg i h in
            let party : (second : ℕ) → party_at riders' (told (Drop i, second)) ≡ leg.r.party =
            λ second. party_is (request_at b.riders (get_or trip i 0)).id leg.r (planned_status (picks planned.chosen)
            (request_at b.riders (get_or trip i 0)).id) (told (Drop i, second)) (told_name i h) leg.now_found in
            record {
              second = λ second. refl;
              pick = λ second. refl;
              node = λ second. in_points points (leg_at (map (λ r. (rider_at settled r).leg) trip) i).destination leg.r.destination leg.destination;
              boards = λ second pick. absurd (false≢true pick);
              room = λ second room. ap (λ n. room + n) (leg.party ∙ sym (party second));
            }
        by (Alight j) h =
            let leg = passenger_leg j h in
            let of = aboard_at j h in
            let found = passenger_stays (get_or (map (λ (p : Passenger). p.rider) own.x.aboard.items) j 0) of.rider own.x.id of.found of.status in
            let party : (second : ℕ) → party_at riders' (told (Alight j, second)) ≡ of.rider.party =
            λ second. party_is (get_or (map (λ (p : Passenger). p.rider) own.x.aboard.items) j 0) of.rider of.rider.status (told (Alight j, second))
            (told_aboard j) found in
            record {
              second = λ second. refl;
              pick = λ second. refl;
              node = λ second. in_points points (leg_at (vehicle_at settled k).aboard.items j).destination of.rider.destination leg.destination_place;
              boards = λ second pick. absurd (false≢true pick);
              room = λ second room. ap (λ n. room + n) (leg.size ∙ sym (party second));
            }

    -- a told stop by the second at which it is in time
    pub record IsMemberPickup (stop : PlannedStop) : Type 0 where
      pub i : ℕ
      pub within : i < length trip
      pub rider : stop.rider ≡ (request_at b.riders (get_or trip i 0)).id
      pub pick : stop.pick ≡ true
      pub node : stop.node ≡ (member_leg i within).r.origin
      pub in_time : stop.second ≤ (member_leg i within).r.time + settings.wait
      pub in_limit : stop.second ≤ (rider_at settled (get_or trip i 0)).leg.latest_pickup

    dropped_in_time : (leg : Leg) (r : BookRider) (second : ℕ) → slice_get points leg.origin ≡ Some r.origin →
        slice_get points leg.destination ≡ Some r.destination
        → leg.ideal ≡ ideal_dropoff r.time (travel_time times leg.origin leg.destination) → leg.latest_dropoff ≡ leg.ideal + settings.delay →
        second ≤ leg.latest_dropoff → IsDroppedInTime roads settings.delay r second
    dropped_in_time leg r second origin destination ideal latest le = search (rules, time_between)

    all_told : AllByRecursion (λ stop. IsMemberPickup stop ⊎ ((stop.pick ≡ false) × IsRightDropoff roads settings.delay riders' own.x.id stop))
        (told_from roads points times table riders' settled.dwell vis told (vehicle_at settled k).start (vehicle_at settled k).ready own.is.stops)
    all_told = told_all roads points times table riders' settled.dwell vis told KnownStop (λ stop. IsMemberPickup stop ⊎
        ((stop.pick ≡ false) × IsRightDropoff roads settings.delay riders' own.x.id stop)) by own.is.stops (vehicle_at settled k).start
        (vehicle_at settled k).ready (free_seats task) all_known own.is.serves.in_time
      where
        by : (stop : Stop) (second : ℕ) → KnownStop stop → second ≤ latest_of (vis stop) → IsMemberPickup (told (stop, second)) ⊎
            ((told (stop, second)).pick ≡ false × IsRightDropoff roads settings.delay riders' own.x.id (told (stop, second)))
        by (Pick i) second h le =
            let leg = member_leg i h in
            let same : (leg_at (map (λ r. (rider_at settled r).leg) trip) i).latest_pickup ≡ (rider_at settled (get_or trip i 0)).leg.latest_pickup =
            ap (λ (leg : Leg). leg.latest_pickup) (leg_is i h) in
            inl (record {
              i = i;
              within = h;
              rider = told_name i h;
              pick = refl;
              node = get_or_from_slice_get points (leg_at (map (λ r. (rider_at settled r).leg) trip) i).origin leg.r.origin 0 leg.origin;
              in_time = omega (arith, le, leg.latest_pickup);
              in_limit = omega (arith, le, same);
            })
        by (Drop i) second h le =
            let leg = member_leg i h in
            inr (
              refl,
              record {
                rider = with_status (planned_status (picks planned.chosen) (request_at b.riders (get_or trip i 0)).id) leg.r;
                found = ap (λ z. find_rider z riders') (told_name i h) ∙ leg.now_found;
                own = subst (IsOfVehicle own.x.id) (sym (member_status k own i h)) refl;
                node = get_or_from_slice_get points (leg_at (map (λ r. (rider_at settled r).leg) trip) i).destination leg.r.destination 0 leg.destination;
                in_time = dropped_in_time (leg_at (map (λ r. (rider_at settled r).leg) trip) i) (with_status
                    (planned_status (picks planned.chosen) (request_at b.riders (get_or trip i 0)).id) leg.r) second leg.origin leg.destination leg.ideal
                    leg.latest_dropoff le;
              },
            )
        by (Alight j) second h le =
            let of = aboard_at j h in
            let leg = passenger_leg j h in
            inr (
              refl,
              record {
                rider = of.rider;
                found = ap (λ z. find_rider z riders') (told_aboard j) ∙ passenger_stays (get_or (map (λ (p : Passenger). p.rider) own.x.aboard.items) j 0)
                    of.rider own.x.id of.found of.status;
                own = subst (IsOfVehicle own.x.id) (sym of.status) refl;
                node = get_or_from_slice_get points (leg_at (vehicle_at settled k).aboard.items j).destination of.rider.destination 0 leg.destination_place;
                in_time = dropped_in_time (leg_at (vehicle_at settled k).aboard.items j) of.rider second leg.origin_place leg.destination_place leg.ideal
                    leg.latest_dropoff le;
              },
            )

    -- the same of the stops that the plan gives
    pub items_told : AllByRecursion (λ stop. IsMemberPickup stop ⊎ ((stop.pick ≡ false) × IsRightDropoff roads settings.delay riders' own.x.id stop))
        own.t.stops.items
    items_told = subst (AllByRecursion (λ stop. IsMemberPickup stop ⊎ ((stop.pick ≡ false) × IsRightDropoff roads settings.delay riders' own.x.id stop)))
        (sym own.is.told) all_told

    -- each pickup of a member is at the second that is promised
    at_promised : AllByRecursion (λ (stop : PlannedStop). (m : (i : ℕ) × (i < length trip)) → stop.rider ≡ (request_at b.riders (get_or trip m.0 0)).id →
        stop.pick ≡ true → stop.second ≡ (member_promised k own m.0 m.1).second) own.t.stops.items
    at_promised = all_each (λ (m : (i : ℕ) × (i < length trip)) (stop : PlannedStop). stop.rider ≡ (request_at b.riders (get_or trip m.0 0)).id →
        stop.pick ≡ true → stop.second ≡ (member_promised k own m.0 m.1).second) own.t.stops.items
        (λ m. (member_promised k own m.0 m.1).at)

    items_right : AllByRecursion (IsRightStop settings roads riders' own.x.id) own.t.stops.items
    items_right = all_weaker (λ stop. (IsMemberPickup stop ⊎ ((stop.pick ≡ false) × IsRightDropoff roads settings.delay riders' own.x.id stop))
        × ((m : (i : ℕ) × (i < length trip)) → stop.rider ≡ (request_at b.riders (get_or trip m.0 0)).id → stop.pick ≡ true →
        stop.second ≡ (member_promised k own m.0 m.1).second)) (IsRightStop settings roads riders' own.x.id)
        (λ stop h. by stop h.0 h.1) own.t.stops.items
        (both (λ stop. IsMemberPickup stop ⊎ ((stop.pick ≡ false) × IsRightDropoff roads settings.delay riders' own.x.id stop))
        (λ (stop : PlannedStop). (m : (i : ℕ) × (i < length trip)) → stop.rider ≡ (request_at b.riders (get_or trip m.0 0)).id → stop.pick ≡ true →
        stop.second ≡ (member_promised k own m.0 m.1).second) own.t.stops.items items_told at_promised)
      where
        by : (stop : PlannedStop) → IsMemberPickup stop ⊎ ((stop.pick ≡ false) × IsRightDropoff roads settings.delay riders' own.x.id stop)
            → ((m : (i : ℕ) × (i < length trip)) → stop.rider ≡ (request_at b.riders (get_or trip m.0 0)).id → stop.pick ≡ true →
            stop.second ≡ (member_promised k own m.0 m.1).second) → IsRightStop settings roads riders' own.x.id stop
        by stop (inl member) promised =
            let leg = member_leg member.i member.within in
            let second : stop.second ≡ (member_promised k own member.i member.within).second = promised (member.i, member.within) member.rider member.pick in
            rw member.pick (record {
              rider = with_status (planned_status (picks planned.chosen) (request_at b.riders (get_or trip member.i 0)).id) leg.r;
              found = ap (λ z. find_rider z riders') member.rider ∙ leg.now_found;
              status = member_status k own member.i member.within ∙ ap (λ n. Promised (record { vehicle = own.x.id; pickup = n })) (sym second);
              node = member.node;
              in_time = member.in_time;
            })
        by stop (inr drop) promised = subst (λ o. MatchBool o (IsRightPickup settings.wait riders' own.x.id stop)
            (IsRightDropoff roads settings.delay riders' own.x.id stop)) (sym drop.0) drop.1

    -- a vehicle has one number
    pub one_number : (j : ℕ) (other : HasTrip j) → other.x.id ≡ own.x.id → j ≡ k
    one_number j other e = same_place (λ (v : Vehicle). v.id) b.vehicles (subst (KeysDiffer (λ (v : Vehicle). v.id)) (sym shows.vehicles)
        (KeysDiffer-from_rise (λ (v : Vehicle). v.id) s.vehicles kept.state.consistent.vehicles_rise)) j k other.x own.x
        (slice_get_within b.vehicles j other.x other.at) (slice_get_within b.vehicles k own.x own.at)
        (ap (λ (v : Vehicle). v.id) (get_or_from_slice_get b.vehicles j other.x other.x other.at) ∙ e ∙
        sym (ap (λ (v : Vehicle). v.id) (get_or_from_slice_get b.vehicles k own.x own.x own.at)))

    same_trip : (j : ℕ) (other : HasTrip j) → j ≡ k → other.t ≡ own.t
    same_trip j other e = let a : slice_get planned.chosen k ≡ Some other.t = subst (λ j. slice_get planned.chosen j ≡ Some other.t) e other.chosen in let c =
        own.chosen in cc

    -- the calls of whoever is of the vehicle after the plan
    items_calls : (z : ℕ) (q : BookRider) → find_rider z riders' ≡ Some q → HasCalls own.x.id q.status (calls_of z own.t.stops.items)
    items_calls z q e = by (after_plan_is z q e)
      where
        seated : find_rider z s.riders ≡ Some q → ((p : Promise) → q.status ≡ Promised p → ⊥) → (t : Status) → q.status ≡ t →
            HasCalls own.x.id t (calls_of z own.t.stops.items)
        seated found none (Promised p) is = absurd (none p is)
        seated found none (Aboard u) is = λ same.
            let place = passenger_at settings roads s stops b settled points times kept shows early limits table k own.x own.at z q found
            (is ∙ ap Aboard same) in
            ap (λ z. calls_of z own.t.stops.items) (sym place.2) ∙ passenger_calls settings roads s stops b settled points times kept shows early limits table
            planned good k own.within own.x own.at own.t own.is place.0 place.1
        seated found none status is = tt

        by : IsAfter z q → HasCalls own.x.id q.status (calls_of z own.t.stops.items)
        by (unchanged found none) = seated found none q.status refl
        by (left_waiting waits) = subst (λ t. HasCalls own.x.id t (calls_of z own.t.stops.items)) (sym waits) tt
        by (on_trip j other i h name status asked) = subst (λ t. HasCalls own.x.id t (calls_of z own.t.stops.items)) (sym status)
            (λ same. ap (λ (t : ChosenTrip). calls_of z t.stops.items) (sym (same_trip j other (one_number j other same))) ∙
            ap (λ z. calls_of z other.t.stops.items) (sym name)
            ∙ member_calls settings roads s stops b settled points times kept shows early limits table planned good j other.within other.x other.at other.t
            other.is i h)

    few_items : length own.t.stops.items ≤ 2 * settings.trip + length own.x.aboard.items
    few_items =
        let a : length own.t.stops.items ≡ length own.is.stops = ap length own.is.told ∙ told_length roads points times table riders' settled.dwell vis told
        own.is.stops (vehicle_at settled k).start (vehicle_at settled k).ready in
        let legs : length (map (λ r. (rider_at settled r).leg) trip) ≡ length trip = length-map trip (λ r. (rider_at settled r).leg) in
        let size = (trip_is settings roads s stops b settled points times kept shows early limits table planned good k own.is.row own.within own.is.chooses).1
        in
        let row = row_of settings roads s stops b settled points times kept shows early limits table planned good k own.is.row own.within own.is.chooses in
        let six = (good.exact.good.rows own.is.row row.within).few in
        let l : length own.is.stops ≤ length (map (λ r. (rider_at settled r).leg) trip) * 2 + length (vehicle_at settled k).aboard.items =
        length-IsOrder (length (map (λ r. (rider_at settled r).leg) trip)) (length (vehicle_at settled k).aboard.items) own.is.stops
        (omega (arith, six, legs)) own.is.serves.order in
        omega (arith, a, legs, size, l, placed.aboard_count)

    -- the vehicle serves the stops that the plan gives it
    pub serves_chosen : IsServing settings roads riders' own.x own.x.time own.t.stops.items
    serves_chosen =
        let found_x = vehicle_found settings roads s stops b settled points times kept shows early limits table k own.x own.at in
        let ready : (vehicle_at settled k).ready ≡ own.x.time = (let a : (vehicle_at settled k).ready ≡ max own.x.time b.sealed_at = placed.ready in let e =
        early own.x.id own.x found_x in omega (arith, a, e)) in
        let dwell : settled.dwell ≡ settings.dwell = limits.dwell in
        let items : own.t.stops.items ≡ told_from roads points times table riders' settled.dwell vis told (vehicle_at settled k).start
        (vehicle_at settled k).ready own.is.stops = own.is.told in
        let room : free_seats task ≡ own.x.seats - persons_aboard own.x =
        omega (
          arith,
          same_persons (vehicle_at settled k).aboard.items own.x.aboard.items placed.aboard_count (λ k p e. (placed.aboard_legs k p e).size),
          placed.seats,
        ) in
        let reached : AreReached roads settled.dwell own.x.node (vehicle_at settled k).ready own.t.stops.items =
        subst (AreReached roads settled.dwell own.x.node (vehicle_at settled k).ready) (sym items)
        (told_reached roads points times table riders' settled.dwell vis told own.is.stops (vehicle_at settled k).start own.x.node
        (vehicle_at settled k).ready (free_seats task) are_told placed.start own.is.serves.in_time) in
        let seats : HasSeatsFor riders' (free_seats task) own.t.stops.items =
        subst (HasSeatsFor riders' (free_seats task)) (sym items) (told_seats roads points times table riders' settled.dwell vis told own.is.stops
        (vehicle_at settled k).start (vehicle_at settled k).ready (free_seats task) are_told own.is.serves.in_time) in
        record {
          reached = subst (λ d. AreReached roads d own.x.node own.x.time own.t.stops.items) dwell
              (subst (λ f. AreReached roads settled.dwell own.x.node f own.t.stops.items) ready reached);
          seats = subst (λ n. HasSeatsFor riders' n own.t.stops.items) room seats;
          right = items_right;
          calls = items_calls;
          few = few_items;
        }

  abbrev pub planned_state : State
  planned_state = record s { riders = map (after_plan b.riders (picks planned.chosen)) s.riders; sealed = None }

  chosen_found : (k : ℕ) (own : HasTrip k) → look_up (λ (t : ChosenTrip). t.vehicle) own.t.vehicle planned.chosen ≡ Some own.t
  chosen_found k own = look_up_only (λ (t : ChosenTrip). t.vehicle) planned.chosen k own.t own.chosen (λ j u e same.
      let back = trip_back settings roads s stops b settled points times kept shows early limits table planned good j u e in
      let x = vehicle_of_number settings roads s stops b settled points times kept shows early limits table j back.0 in
      one_number k own j (record { within = back.0; x = x.0; at = x.1; t = u; chosen = e; is = back.1 })
      (sym (trip_vehicle j (record { within = back.0; x = x.0; at = x.1; t = u; chosen = e; is = back.1 })) ∙ same ∙ trip_vehicle k own))

  -- whoever is promised something after the plan
  next_promise : (z : ℕ) (q : BookRider) (promise : Promise) → find_rider z riders' ≡ Some q → q.status ≡ Promised promise →
      IsPromiseKept planned_state q promise
  next_promise z q promise e status = by (after_plan_is z q e)
    where
      by : IsAfter z q → IsPromiseKept planned_state q promise
      by (unchanged found none) = absurd (none promise status)
      by (left_waiting waits) = absurd (let c : Promised promise ≡ Waiting = sym status ∙ waits in cc)
      by (on_trip j other i h name is asked) =
          let c : Promised promise ≡ Promised (record { vehicle = other.x.id; pickup = (member_promised j other i h).second }) = sym status ∙ is in
          let d : promise ≡ record { vehicle = other.x.id; pickup = (member_promised j other i h).second } = cc in
          record {
            last = b.sealed_at;
            sealed = shows.last;
            asked = asked;
            vehicle = other.x;
            at = ap (λ (p : Promise). find_vehicle p.vehicle s.vehicles) d ∙ vehicle_found settings roads s stops b settled points times kept shows early limits
                table j other.x other.at;
          }

  -- the state after the close is kept, with the stops of the chosen trips
  pub closed_kept : (command : Command) (reply : Reply) → step roads.nodes settings.wait s command ≡ (planned_state, reply) →
      IsKept settings roads planned_state (chosen_stops planned)
  closed_kept command reply is = record {
    state = stepped settings roads s planned_state command kept.state (ap (λ (p : State × Reply). p.0) is) next_promise;
    each = λ id v found.
        let k = number_of_vehicle settings roads s stops b settled points times kept shows early limits table id v found in
        let own = has_trip k.0 k.1 in
        let same : own.x ≡ v = cc (own.at, k.2) in
        let vid : own.t.vehicle ≡ id = trip_vehicle k.0 own ∙ ap (λ (v : Vehicle). v.id) same ∙ vehicle_id id s.vehicles v found in
        let items : own.t.stops.items ≡ chosen_stops planned id =
        sym (ap (λ o. option_map_or (λ (t : ChosenTrip). t.stops.items) o []) (ap (λ z. look_up (λ (t : ChosenTrip). t.vehicle) z planned.chosen) (sym vid) ∙
        chosen_found k.0 own)) in
        subst (IsServing settings roads riders' v v.time) items
        (subst (λ (v : Vehicle). IsServing settings roads riders' v v.time own.t.stops.items) same (serves_chosen k.0 own));
  }

  -- a promise is planned again, not later
  kept_in_plan : (n : ℕ) (p : Promise) → n < length b.riders → (request_at b.riders n).promise ≡ Some p →
      1 ≤ times_chosen good.graph (good.holds point.Plan).chosen n
  kept_in_plan n p low e =
      let to : is_promised_to p.vehicle (request_at b.riders n) ≡ true = rw e (eq-eqb p.vehicle p.vehicle refl) in
      let keeper = promise_is_held settings roads s stops b settled points times kept shows early limits table n p.vehicle low to in
      let v = keeper.0 in
      let within : v < length settled.vehicles = keeper.1 in
      let listed : Contains (vehicle_at settled v).held.items n = keeper.2 in
      let row = MatchBool-at_false (choice_at good.graph.held v ≡ None) ((m : ℕ) × (choice_at good.graph.held v ≡ Some m) × IsRowWith good.graph.rows v
      (vehicle_at settled v).held.items m)
      (not_late settings roads s stops b settled points times kept shows early limits table v within) (good.exact.hold v within) in
      let at : get_or (vehicle_at settled v).held.items listed.0 0 ≡ n = get_or_default (vehicle_at settled v).held.items listed.0 0 n listed.1 ∙ listed.2 in
      let has : has_node (riders_at good.graph row.0) n ≡ true =
      subst (λ xs. has_node xs n ≡ true) (sym row.2.trip) (subst (λ m. has_node (vehicle_at settled v).held.items m ≡ true) at
      (is_node_at (vehicle_at settled v).held.items listed.0 listed.1)) in
      let served = times_served_some good.graph good.graph.held good.graph.vehicles n v (omega (arith, good.exact.vehicle_total, within))
      (ap (λ o. is_in good.graph o n) row.1 ∙ has) in
      let must : must_be_served good.graph n ≡ true = lt-ltb 0 _ (omega (arith, served)) in
      omega (arith, (good.holds point.Plan).holds.0.kept n must)

  pub closed_bounds : KeepsBounds s planned_state
  closed_bounds z limit was = by was.of.status refl was.bound
    where
      find' : find_rider z riders' ≡ Some (after_plan b.riders (picks planned.chosen) was.of)
      find' = find_planned z ∙ ap (option_map (after_plan b.riders (picks planned.chosen))) was.found

      stays_same : is_active was.of.status ≡ false → IsBound planned_state z limit
      stays_same off = record { of = was.of; found = find' ∙ ap Some (after_stays b.riders (picks planned.chosen) was.of off); bound = was.bound }

      again : (p : Promise) → was.of.status ≡ Promised p → p.pickup ≤ limit → (n : ℕ) → (low : n < length b.riders) → (request_at b.riders n).id ≡ was.of.id →
          (request_at b.riders n).promise ≡ Some p
          → IsPlaced' n → IsBound planned_state z limit
      again p t le n low name promise (stays out) = absurd (
          let some = times_served_found good.graph (good.holds point.Plan).chosen good.graph.vehicles n (kept_in_plan n p low promise) in
          let choice = in_choice good.graph (choice_at (good.holds point.Plan).chosen some.0) n some.2 in
          out some.0 choice.0 (omega (arith, good.exact.vehicle_total, some.1)) choice.1 choice.2)
      again p t le n low name promise (rides j other i l at) =
          let id : (request_at b.riders (get_or (riders_at good.graph other.is.row) i 0)).id ≡ was.of.id = ap (λ m. (request_at b.riders m).id) at ∙ name in
          let status = member_status j other i l in
          let calls : calls_of (request_at b.riders (get_or (riders_at good.graph other.is.row) i 0)).id other.t.stops.items ≡ true ∷ false ∷ [] =
          member_calls settings roads s stops b settled points times kept shows early limits table planned good j other.within other.x other.at other.t other.is
          i l in
          let call = first_call (λ stop. (IsMemberPickup j other stop ⊎ ((stop.pick ≡ false) × IsRightDropoff roads settings.delay riders' other.x.id stop))
          × (stop.rider ≡ (request_at b.riders (get_or (riders_at good.graph other.is.row) i 0)).id → stop.pick ≡ true →
          stop.second ≡ (member_promised j other i l).second))
          (request_at b.riders (get_or (riders_at good.graph other.is.row) i 0)).id true (false ∷ []) other.t.stops.items calls
          (both (λ stop. IsMemberPickup j other stop ⊎ ((stop.pick ≡ false) × IsRightDropoff roads settings.delay riders' other.x.id stop))
          (λ (stop : PlannedStop). stop.rider ≡ (request_at b.riders (get_or (riders_at good.graph other.is.row) i 0)).id → stop.pick ≡ true →
          stop.second ≡ (member_promised j other i l).second)
          other.t.stops.items (items_told j other) (member_promised j other i l).at) in
          let keeps : (rider_at settled n).leg.latest_pickup ≤ p.pickup = grind (
            arith,
            nat_tests,
            promise,
            limits.limits n (omega (arith, low, limits.rider_count)),
            promise_is_held settings roads s stops b settled points times kept shows early limits table n p.vehicle low
                (rw promise (eq-eqb p.vehicle p.vehicle refl)),
          ) in
          record {
            of = with_status (planned_status (picks planned.chosen) was.of.id) was.of;
            found = find' ∙ ap Some (after_is b.riders (picks planned.chosen) was.of (ap is_active t) (promised_in_batch z was.of p was.found t));
            bound = subst (IsBoundBy limit) (sym (ap (planned_status (picks planned.chosen)) (sym id) ∙ status))
                (omega (arith, call.3.1 call.1 call.2, limit_of call.0 call.1 call.2 call.3.0, keeps, le));
          }
        where
          limit_of : (stop : PlannedStop) → stop.rider ≡ (request_at b.riders (get_or (riders_at good.graph other.is.row) i 0)).id → stop.pick ≡ true
              → IsMemberPickup j other stop ⊎ ((stop.pick ≡ false) × IsRightDropoff roads settings.delay riders' other.x.id stop) →
              stop.second ≤ (rider_at settled n).leg.latest_pickup
          limit_of stop rider pick (inr drop) = absurd (true≢false (sym pick ∙ drop.0))
          limit_of stop rider pick (inl member) =
              let trip = (trip_is settings roads s stops b settled points times kept shows early limits table planned good j other.is.row other.within
              other.is.chooses).0 in
              let same : get_or (riders_at good.graph other.is.row) member.i 0 ≡ n =
              other_id b.riders shows.rise (get_or (riders_at good.graph other.is.row) member.i 0) n (trip.within member.i 0 member.within) low
              (sym member.rider ∙ rider ∙ ap (λ m. (request_at b.riders m).id) at) in
              subst (λ m. stop.second ≤ (rider_at settled m).leg.latest_pickup) same member.in_limit

      by : (t : Status) → was.of.status ≡ t → IsBoundBy limit t → IsBound planned_state z limit
      by (Promised p) e le =
          let n = number_in_batch b.riders was.of.id (promised_in_batch z was.of p was.found e) in
          let there = shows.promised z was.of p was.found e in
          let id : was.of.id ≡ z = found_id z s.riders was.of was.found in
          let at : look_up (λ (r : Rider). r.id) (request_at b.riders n.0).id b.riders ≡ Some (request_at b.riders n.0) =
          look_up-at (λ (r : Rider). r.id) n.0 b.riders no_request (KeysDiffer-from_rise (λ (r : Rider). r.id) b.riders shows.rise) n.1 in
          let is : request_at b.riders n.0 ≡ shown was.of (Some p) = cc (at, there, n.2 ∙ id) in
          again p e le n.0 n.1 n.2 (ap (λ (r : Rider). r.promise) is) (where_is n.0)
      by (Aboard v) e le = stays_same (ap is_active e)
      by Delivered e le = stays_same (ap is_active e)
      by status e le = absurd le
