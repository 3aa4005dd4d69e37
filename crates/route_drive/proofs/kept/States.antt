-- What an entry of a driven day leaves of a state: a stop that is entered, a report, a request.
use Rattle.std.proofs.lemmas.Bool.Decides.{nat_tests}
use Rattle.std.proofs.Common.{◌≡◌, ℕ, ◌+◌, ◌-◌, ◌≤◌, true, false, List, ◌∷◌, Some, refl, sym, ap, ◌∙◌, subst, arith, inl, inr, option_map, option_and_then}
use Rattle.route_drive.proofs.Common.{
  option_map_or,
  cases_eq,
  persons_aboard,
  HasSeats,
  Promise,
  Vehicle,
  seat_in,
  KeysDiffer,
  with_status,
  passenger_of,
  find_rider,
  find_vehicle,
  find_passenger,
  step,
  rider_becomes,
  vehicle_becomes,
  stands_at,
  takes_in,
  lets_out,
  Command,
  Report,
  Pickup,
  Dropoff,
  PlannedStop,
  Reply,
  Placed,
  Picked,
  Dropped,
  BookRider,
  Status,
  Promised,
  Aboard,
  Delivered,
  State,
  step-consistent,
  step-named,
  look_up-key,
  look_up-changed_here,
  look_up-changed_there,
  All-look_up,
  Settings,
  Roads,
  has_node,
  AreReached,
  party_at,
  IsOfVehicle,
  IsServing,
  IsPromiseKept,
  IsDayState,
  IsBoundBy,
  KeepsBounds,
  LeavesOthers,
  IsDone,
  eq-eqb,
}
use Rattle.route_drive.proofs.kept.Riders.{changed, find_other, find_same, found_id, of_one}
use Rattle.route_drive.proofs.kept.Enter.{others_serve, picked_up_right, dropped_right, serves_on_picked, dropped_is_aboard, serves_on_dropped}
use Rattle.route_drive.proofs.kept.Replies.{pickup_is, dropoff_is, report_is}

pub vehicle_id : (id : ℕ) (vehicles : List Vehicle) (v : Vehicle) → find_vehicle id vehicles ≡ Some v → v.id ≡ id
vehicle_id id vehicles v e = look_up-key (λ (v : Vehicle). v.id) id vehicles v e

-- the state after a step, where its promises are kept
pub stepped : (settings : Settings) (roads : Roads) (s t : State) (command : Command) → IsDayState roads s → (step roads.nodes settings.wait s command).0 ≡ t
    → ((x : ℕ) (r : BookRider) (promise : Promise) → find_rider x t.riders ≡ Some r → r.status ≡ Promised promise → IsPromiseKept t r promise) →
    IsDayState roads t
stepped settings roads s t command day is promises = grind (
  arith,
  nat_tests,
  (step-consistent roads.nodes settings.wait s command day.consistent),
  (step-named roads.nodes settings.wait s command day.consistent day.named),
)

-- the state after a change of a rider's status and of a vehicle
module _ (settings : Settings) (roads : Roads) (s : State) (day : IsDayState roads s) (x : ℕ) (r : BookRider) (status : Status) (vehicle : ℕ) (v : Vehicle)
    (f : Vehicle → Vehicle)
    (found : find_rider x s.riders ≡ Some r) (at : find_vehicle vehicle s.vehicles ≡ Some v) (keeps : (v : Vehicle) → (f v).id ≡ v.id)
    (own : IsOfVehicle vehicle r.status) (after : (p : Promise) → status ≡ Promised p → ⊥) (next : (w : ℕ) → IsOfVehicle w status → vehicle ≡ w) where
  abbrev next_state : State
  next_state = vehicle_becomes (rider_becomes s x status) vehicle f

  vehicle_there : find_vehicle vehicle next_state.vehicles ≡ Some (f v)
  vehicle_there = look_up-changed_here (λ (v : Vehicle). v.id) vehicle f keeps s.vehicles ∙ ap (option_map f) at

  vehicle_other : (id : ℕ) → (vehicle ≡ id → ⊥) → find_vehicle id next_state.vehicles ≡ find_vehicle id s.vehicles
  vehicle_other id ne = look_up-changed_there (λ (v : Vehicle). v.id) vehicle id f keeps s.vehicles ne

  vehicle_still : (id : ℕ) (w : Vehicle) → find_vehicle id s.vehicles ≡ Some w → (u : Vehicle) × (find_vehicle id next_state.vehicles ≡ Some u)
  vehicle_still id w e = elim (cases_eq vehicle id) [
    | inl same ↦ (f v, subst (λ k. find_vehicle k next_state.vehicles ≡ Some (f v)) same vehicle_there)
    | inr ne ↦ (w, vehicle_other id ne ∙ e)
  ]

  next_promises : (y : ℕ) (q : BookRider) (promise : Promise) → find_rider y next_state.riders ≡ Some q → q.status ≡ Promised promise →
      IsPromiseKept next_state q promise
  next_promises y q promise e t = elim (cases_eq x y) [
    | inl same ↦
        let is : with_status status r ≡ q = cc (find_same s.riders x status r found, same, e) in
        absurd (after promise (ap (λ (q : BookRider). q.status) is ∙ t))
    | inr ne ↦
        let was = day.promises y q promise (sym (find_other s.riders x status y ne) ∙ e) t in
        let still = vehicle_still promise.vehicle was.vehicle was.at in
        record { last = was.last; sealed = was.sealed; asked = was.asked; vehicle = still.0; at = still.1 }
  ]

  next_bounds : ((limit : ℕ) → IsBoundBy limit status) → KeepsBounds s next_state
  next_bounds bound y limit was = elim (cases_eq x y) [
    | inl same ↦ record {
      of = with_status status r;
      found = subst (λ k. find_rider k (changed s.riders x status) ≡ Some (with_status status r)) same
          (find_same s.riders x status r found);
      bound = bound limit;
    }
    | inr ne ↦ record { of = was.of; found = find_other s.riders x status y ne ∙ was.found; bound = was.bound }
  ]

  next_others : LeavesOthers settings roads s next_state vehicle
  next_others = record {
    found = λ id w ne e. sym (vehicle_other id ne) ∙ e;
    serve = λ id w free stops ne e serves.
        let is : w.id ≡ id = vehicle_id id s.vehicles w (sym (vehicle_other id ne) ∙ e) in
        others_serve settings roads s.riders x r status w free stops found
        (λ h. ne (of_one vehicle w.id r.status own h ∙ is)) (λ h. ne (next w.id h ∙ is)) serves;
  }

  next_done : (command : Command) (reply : Reply) (free : ℕ) (stops : List PlannedStop) → step roads.nodes settings.wait s command ≡ (next_state, reply) →
      IsServing settings roads next_state.riders (f v) free stops
      → ((limit : ℕ) → IsBoundBy limit status) → IsDone settings roads s command reply vehicle (f v).node (f v).time free stops
  next_done command reply free stops is serves bound = record {
    t = next_state;
    is = is;
    state = stepped settings roads s next_state command day (ap (λ (p : State × Reply). p.0) is) next_promises;
    own = record { v = f v; at = vehicle_there; there = refl; by = refl; serves = serves };
    others = next_others;
    bounds = next_bounds bound;
  }

module _ (settings : Settings) (roads : Roads) (s : State) (day : IsDayState roads s) (v : Vehicle) (at : find_vehicle v.id s.vehicles ≡ Some v) where
  has_seats : HasSeats v
  has_seats = All-look_up (λ (v : Vehicle). v.id) HasSeats v.id s.vehicles v day.consistent.seats at

  pub pickup_done : (free : ℕ) (stop : PlannedStop) (stops : List PlannedStop) → v.time ≤ free → stop.pick ≡ true →
      IsServing settings roads s.riders v free (stop ∷ stops)
      → IsDone settings roads s (Pickup v.id stop.rider stop.second) Picked v.id stop.node stop.second (stop.second + settings.dwell) stops
  pickup_done free stop stops early pick serves =
      let right = picked_up_right settings roads s.riders v.id stop pick serves.right.0 in
      let promise : Promise = record { vehicle = v.id; pickup = stop.second } in
      let party : party_at s.riders stop ≡ right.rider.party = ap (λ o. option_map_or (λ (r : BookRider). r.party) o 0) right.found in
      let room : party_at s.riders stop ≤ v.seats - persons_aboard v = serves.seats.0 pick in
      let is : step roads.nodes settings.wait s (Pickup v.id stop.rider stop.second) ≡ (
        vehicle_becomes (rider_becomes s stop.rider (Aboard v.id)) v.id
            (takes_in right.rider stop.second),
        Picked,
      ) =
      pickup_is roads.nodes settings.wait s v.id stop.rider stop.second v right.rider promise at right.found right.status refl
      (omega (arith, early, serves.reached.0.reached)) (omega (arith, has_seats.enough, party, room))
      ∙ ap (λ k. (vehicle_becomes (rider_becomes s k (Aboard v.id)) v.id (takes_in right.rider stop.second), Picked))
      (found_id stop.rider s.riders right.rider right.found) in
      subst (λ n. IsDone settings roads s (Pickup v.id stop.rider stop.second) Picked v.id n stop.second (stop.second + settings.dwell) stops) (sym right.node)
      (next_done settings roads s day stop.rider right.rider (Aboard v.id) v.id v (takes_in right.rider stop.second) right.found at (λ v. refl)
      (subst (IsOfVehicle v.id) (sym right.status) refl) (λ p e. absurd cc) (λ w h. h)
      (Pickup v.id stop.rider stop.second) Picked (stop.second + settings.dwell) stops is
      (serves_on_picked settings roads s.riders v free stop stops right.rider pick right.found right.status right.node (omega (arith, party, room)) serves)
      (λ limit. tt))

  -- the passenger of a rider aboard
  passenger_found : (x : ℕ) (r : BookRider) → find_rider x s.riders ≡ Some r → r.status ≡ Aboard v.id → find_passenger x v.aboard.items ≡ Some (passenger_of r)
  passenger_found x r found status =
      ap (option_and_then (λ (v : Vehicle). find_passenger x v.aboard.items)) (sym at) ∙ day.consistent.aboard v.id x ∙
      ap (option_and_then (seat_in v.id)) found ∙ rw (status, eq-eqb v.id v.id refl) refl

  pub dropoff_done : (free : ℕ) (stop : PlannedStop) (stops : List PlannedStop) → v.time ≤ free → stop.pick ≡ false →
      IsServing settings roads s.riders v free (stop ∷ stops)
      → IsDone settings roads s (Dropoff v.id stop.rider stop.second) Dropped v.id stop.node stop.second (stop.second + settings.dwell) stops
  dropoff_done free stop stops early pick serves =
      let right = dropped_right settings roads s.riders v.id stop pick serves.right.0 in
      let id = found_id stop.rider s.riders right.rider right.found in
      let aboard = dropped_is_aboard settings roads s.riders v.id stop stops right.rider pick right.own (serves.calls stop.rider right.rider right.found) in
      let is : step roads.nodes settings.wait s (Dropoff v.id stop.rider stop.second) ≡ (
        vehicle_becomes (rider_becomes s stop.rider Delivered) v.id
            (lets_out right.rider stop.second),
        Dropped,
      ) =
      dropoff_is roads.nodes settings.wait s v.id stop.rider stop.second v right.rider at right.found aboard.0 (omega (arith, early, serves.reached.0.reached))
      ∙ ap (λ k. (vehicle_becomes (rider_becomes s k Delivered) v.id (lets_out right.rider stop.second), Dropped)) id in
      let differ = All-look_up (λ (v : Vehicle). v.id) (λ (v : Vehicle). KeysDiffer (λ p. p.rider) v.aboard.items) v.id s.vehicles v day.consistent.passengers
      at in
      subst (λ n. IsDone settings roads s (Dropoff v.id stop.rider stop.second) Dropped v.id n stop.second (stop.second + settings.dwell) stops)
      (sym right.node)
      (next_done settings roads s day stop.rider right.rider Delivered v.id v (lets_out right.rider stop.second) right.found at (λ v. refl) right.own
      (λ p e. absurd cc) (λ w h. absurd h)
      (Dropoff v.id stop.rider stop.second) Dropped (stop.second + settings.dwell) stops is
      (serves_on_dropped settings roads s.riders v free stop stops right.rider (passenger_of right.rider) pick right.found id aboard.1 right.node differ
      (passenger_found stop.rider right.rider right.found aboard.0) refl has_seats.enough serves) (λ limit. tt))

  -- a report, at a node from which the next stop is reached at its second
  pub report_done : (free node time : ℕ) (stops : List PlannedStop) → has_node roads.nodes node ≡ true → v.time ≤ time →
      IsServing settings roads s.riders v free stops
      → AreReached roads settings.dwell node time stops → IsDone settings roads s (Report v.id node time) Placed v.id node time time stops
  report_done free node time stops named early serves reached =
      let next : State = vehicle_becomes s v.id (stands_at node time) in
      let is : step roads.nodes settings.wait s (Report v.id node time) ≡ (next, Placed) = report_is roads.nodes settings.wait s v.id node time v at named
      early in
      let there : find_vehicle v.id next.vehicles ≡ Some (stands_at node time v) = look_up-changed_here (λ (v : Vehicle). v.id) v.id (stands_at node time)
      (λ v. refl) s.vehicles ∙ ap (option_map (stands_at node time)) at in
      let other : (id : ℕ) → (v.id ≡ id → ⊥) → find_vehicle id next.vehicles ≡ find_vehicle id s.vehicles =
      λ id ne. look_up-changed_there (λ (v : Vehicle). v.id) v.id id (stands_at node time) (λ v. refl) s.vehicles ne in
      record {
        t = next;
        is = is;
        state = stepped settings roads s next (Report v.id node time) day (ap (λ (p : State × Reply). p.0) is) (λ y q promise e t.
            let was = day.promises y q promise e t in
            let still : (u : Vehicle) × (find_vehicle promise.vehicle next.vehicles ≡ Some u) = elim (cases_eq v.id promise.vehicle) [
              | inl same ↦ (stands_at node time v, subst (λ k. find_vehicle k next.vehicles ≡ Some (stands_at node time v)) same there)
              | inr ne ↦ (was.vehicle, other promise.vehicle ne ∙ was.at)
            ] in
            record { last = was.last; sealed = was.sealed; asked = was.asked; vehicle = still.0; at = still.1 });
        own = record {
          v = stands_at node time v;
          at = there;
          there = refl;
          by = refl;
          serves = record { reached = reached; seats = serves.seats; right = serves.right; calls = serves.calls; few = serves.few };
        };
        others = record { found = λ id w ne e. sym (other id ne) ∙ e; serve = λ id w free stops ne e serves. serves };
        bounds = λ y limit was. record { of = was.of; found = was.found; bound = was.bound };
      }
