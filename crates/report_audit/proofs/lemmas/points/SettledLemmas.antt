-- A batch settles in one way.
use Rattle.std.proofs.Common.{
  ◌≡◌,
  ℕ,
  ◌+◌,
  ◌<◌,
  ◌≤◌,
  Bool,
  true,
  false,
  MatchBool,
  List,
  [],
  length,
  get_or,
  map,
  Some,
  slice_get,
  refl,
  sym,
  ap,
  ◌∙◌,
  subst,
  inl,
  inr,
  arith,
}
use Rattle.std.specs.List.Sorted.{IsStrictlyIncreasing}
use Rattle.std.proofs.Math.Path.{fun_ext}
use Rattle.std.proofs.lemmas.Bool.{cases_lt}
use Rattle.std.proofs.lemmas.List.{ext_get_or, get_or_past}
use Rattle.std.proofs.lemmas.Option.{slice_get_within, slice_get-get_or, get_or_from_slice_get}
use Rattle.request_book.specs.declared.values.vehicle.Vehicle.{Vehicle}
use Rattle.request_book.specs.values.Batch.{Batch}
use Rattle.stop_orders.specs.declared.task.leg.Leg.{Leg}
use Rattle.stop_orders.specs.declared.task.settled_vehicle.SettledVehicle.{SettledVehicle}
use Rattle.stop_orders.specs.declared.task.settled.Settled.{Settled}
use Rattle.stop_orders.specs.declared.task.task.Task.{Task}
use Rattle.stop_orders.specs.task.Task.{IsServable, leg_at, no_leg}
use Rattle.stop_orders.specs.task.Settled.{vehicle_at, rider_at, vehicle_task, no_rider}
use Rattle.stop_orders.specs.lemmas.task.Named.{no_vehicle}
use Rattle.rider_limits.specs.declared.settings.Settings.{Settings}
use Rattle.dispatch_engine.specs.limits.Requests.{IsLegOf, request_at}
use Rattle.dispatch_engine.specs.limits.Promised.{promised_limit, promised_to, IsLive}
use Rattle.dispatch_engine.specs.lemmas.limits.NamedPromises.{ideal_second, kept_leg, kept_legs, HoldsPromised, IsHeld, no_request}
use Rattle.dispatch_engine.specs.limits.Settling.{IsPlaced, HasRightLimit, IsSettled}
use Rattle.dispatch_engine.proofs.lemmas.limits.Promises.{some_at, rising_once}

-- a node stands at one place
pub one_place_of : (points : List ℕ) → IsStrictlyIncreasing points → (i j node : ℕ) → slice_get points i ≡ Some node → slice_get points j ≡ Some node → i ≡ j
one_place_of points up i j node a b =
    rising_once points up i j (slice_get_within points i node a) (slice_get_within points j node b)
    (get_or_from_slice_get points i node 0 a ∙ sym (get_or_from_slice_get points j node 0 b))

-- a vehicle but for what rests on orders of stops
pub record IsSamePlace (a b : SettledVehicle) : Type 0 where
  pub id : a.id ≡ b.id
  pub start : a.start ≡ b.start
  pub ready : a.ready ≡ b.ready
  pub seats : a.seats ≡ b.seats
  pub aboard : a.aboard.items ≡ b.aboard.items
  pub aboard_ids : a.aboard_ids.items ≡ b.aboard_ids.items

-- the tasks of vehicles that are at the same place are the same
same_task : (dwell : ℕ) (a b : SettledVehicle) (legs : List Leg) → IsSamePlace a b → vehicle_task dwell a legs ≡ vehicle_task dwell b legs
same_task dwell a b legs is =
    λ k. record {
      start = is.start k;
      ready = is.ready k;
      dwell = dwell;
      seats = is.seats k;
      aboard = record { items = is.aboard k };
      riders =
          record { items = legs };
    }

same_test : (a b : Bool) (P : Type 0) → MatchBool a (P → ⊥) P → MatchBool b (P → ⊥) P → a ≡ b
same_test true false P h k = absurd (h k)
same_test false true P h k = absurd (k h)
same_test _ _ P h k = refl

module _ (settings : Settings) (points : List ℕ) (up : IsStrictlyIncreasing points) (tau : ℕ → ℕ → ℕ) where
  one_leg : (o d t p : ℕ) (a b : Leg) → IsLegOf settings points tau o d t p a → IsLegOf settings points tau o d t p b → a ≡ b
  one_leg o d t p a b is also =
      let from : a.origin ≡ b.origin = one_place_of points up a.origin b.origin o is.origin_place also.origin_place in
      let to : a.destination ≡ b.destination = one_place_of points up a.destination b.destination d is.destination_place also.destination_place in
      let ideal : a.ideal ≡ b.ideal = is.ideal ∙ ap (λ (x : ℕ). ideal_second tau t x a.destination) from ∙ ap (λ (x : ℕ). ideal_second tau t b.origin x) to ∙
      sym also.ideal in
      λ k. record {
        origin = from k;
        destination = to k;
        latest_pickup = (is.latest_pickup ∙ sym also.latest_pickup) k;
        ideal = ideal k;
        latest_dropoff = (is.latest_dropoff ∙ ap (λ (x : ℕ). x + settings.delay) ideal ∙ sym also.latest_dropoff) k;
        party = (is.size ∙ sym also.size) k;
      }

  one_placing : (now : ℕ) (x : Vehicle) (a b : SettledVehicle) → IsPlaced settings points tau now x a → IsPlaced settings points tau now x b → IsSamePlace a b
  one_placing now x a b is also = record {
    id = is.id ∙ sym also.id;
    start = one_place_of points up a.start b.start x.node is.start also.start;
    ready = is.ready ∙ sym also.ready;
    seats = is.seats ∙ sym also.seats;
    aboard = ext_get_or no_leg a.aboard.items b.aboard.items (is.aboard_count ∙ sym also.aboard_count) (λ k within.
        let found = some_at x.aboard.items k (let n = is.aboard_count in omega (arith, n, within)) in let p = found.0 in
        one_leg p.origin p.destination p.time p.party (leg_at a.aboard.items k) (leg_at b.aboard.items k) (is.aboard_legs k p found.1)
        (also.aboard_legs k p found.1));
    aboard_ids = is.aboard_ids ∙ sym also.aboard_ids;
  }

  module _ (batch : Batch) (s t : Settled) (is : IsSettled settings points tau batch s) (also : IsSettled settings points tau batch t) where
    vehicle_placed : (v : ℕ) → v < length s.vehicles → IsSamePlace (vehicle_at s v) (vehicle_at t v)
    vehicle_placed v within =
        let found = some_at batch.vehicles v (let n = is.vehicle_count in omega (arith, n)) in
        one_placing batch.sealed_at found.0 (vehicle_at s v) (vehicle_at t v) (is.placed v found.0 found.1) (also.placed v found.0 found.1)

    -- a rider's legs are the same but for the latest pickup
    leg_same : (r : ℕ) → r < length s.riders → (limit : ℕ) → record (rider_at s r).leg { latest_pickup = limit } ≡ record (rider_at t r).leg
        { latest_pickup = limit }
    leg_same r within limit =
        let x = request_at batch.riders r in
        let at = slice_get-get_or batch.riders r no_request (let n = is.rider_count in omega (arith, n, within)) in
        ap (λ (l : Leg). record l { latest_pickup = limit }) (one_leg x.origin x.destination x.time x.party
        (record (rider_at s r).leg { latest_pickup = x.time + settings.wait }) (record (rider_at t r).leg { latest_pickup = x.time + settings.wait })
        (is.legs r x at) (also.legs r x at))

    kept_same : (k : ℕ) → kept_leg settings.wait (request_at batch.riders k) (get_or s.riders k no_rider).leg ≡ kept_leg settings.wait
        (request_at batch.riders k) (get_or t.riders k no_rider).leg
    kept_same k = elim (cases_lt k (length s.riders)) [
      | inl less ↦ leg_same k less (promised_limit settings.wait (request_at batch.riders k))
      | inr past ↦ rw (
        get_or_past s.riders k no_rider past,
        get_or_past t.riders k no_rider
            (let n = is.rider_count in let m = also.rider_count in omega (arith, n, m, past)),
      ) refl
    ]

    kept_all_same : (trip : List ℕ) → kept_legs settings.wait batch.riders s.riders trip ≡ kept_legs settings.wait batch.riders t.riders trip
    kept_all_same trip = ap (λ (f : ℕ → Leg). map f trip) (fun_ext kept_same)

    live_same : (v w : SettledVehicle) → IsSamePlace v w → IsLive settings tau batch.riders s.riders v → IsLive settings tau batch.riders t.riders w
    live_same v w at live =
        let ids : promised_to v.id batch.riders ≡ promised_to w.id batch.riders = ap (λ (i : ℕ). promised_to i batch.riders) at.id in
        let legs : kept_legs settings.wait batch.riders s.riders (promised_to v.id batch.riders) ≡ kept_legs settings.wait batch.riders t.riders
        (promised_to w.id batch.riders) =
        kept_all_same (promised_to v.id batch.riders) ∙ ap (λ (trip : List ℕ). kept_legs settings.wait batch.riders t.riders trip) ids in
        record {
          few = subst (λ (trip : List ℕ). length trip ≤ settings.trip) ids live.few;
          servable = subst (λ (task : Task). IsServable tau task)
              (ap (λ (l : List Leg). vehicle_task settings.dwell v l) legs ∙ same_task settings.dwell v w
              (kept_legs settings.wait batch.riders t.riders (promised_to w.id batch.riders)) at) live.servable;
        }

module _ (settings : Settings) (points : List ℕ) (up : IsStrictlyIncreasing points) (tau : ℕ → ℕ → ℕ) (batch : Batch) where
  held_same : (s t : Settled) → IsSettled settings points tau batch s → IsSettled settings points tau batch t → (v w : SettledVehicle) → IsSamePlace v w →
      IsSamePlace w v
      → HoldsPromised settings tau batch.riders s.riders v → HoldsPromised settings tau batch.riders t.riders w → v.held.items ≡ w.held.items
  held_same s t is also v w at back (inl a) (inl b) = a.1 ∙ ap (λ (i : ℕ). promised_to i batch.riders) at.id ∙ sym b.1
  held_same s t is also v w at back (inl a) (inr b) = absurd (b.0 (live_same settings points up tau batch s t is also v w at a.0))
  held_same s t is also v w at back (inr a) (inl b) = absurd (a.0 (live_same settings points up tau batch t s also is w v back b.0))
  held_same s t is also v w at back (inr a) (inr b) = a.1 ∙ sym b.1

  back_at : (a b : SettledVehicle) → IsSamePlace a b → IsSamePlace b a
  back_at a b is = record {
    id = sym is.id;
    start = sym is.start;
    ready = sym is.ready;
    seats = sym is.seats;
    aboard = sym is.aboard;
    aboard_ids =
        sym is.aboard_ids;
  }

  module _ (s t : Settled) (is : IsSettled settings points tau batch s) (also : IsSettled settings points tau batch t) where
    same_vehicle_at : (v : ℕ) → v < length s.vehicles → vehicle_at s v ≡ vehicle_at t v
    same_vehicle_at v within =
        let a = vehicle_at s v in let b = vehicle_at t v in
        let within' : v < length t.vehicles = (let n = is.vehicle_count in let m = also.vehicle_count in omega (arith, n, m)) in
        let at = vehicle_placed settings points up tau batch s t is also v within in
        let right = subst (λ (task : Task). MatchBool b.late (IsServable tau task → ⊥) (IsServable tau task)) (sym (same_task settings.dwell a b [] at))
        (also.late v within') in
        let late = same_test a.late b.late (IsServable tau (vehicle_task settings.dwell a [])) (is.late v within) right in
        let held = held_same s t is also a b at (back_at a b at) (is.held v within) (also.held v within') in
        λ k. record {
          id = at.id k;
          start = at.start k;
          ready = at.ready k;
          seats = at.seats k;
          aboard = record { items = at.aboard k };
          aboard_ids =
              record { items = at.aboard_ids k };
          late = late k;
          held = record { items = held k };
        }

    same_vehicles : s.vehicles ≡ t.vehicles
    same_vehicles = ext_get_or no_vehicle s.vehicles t.vehicles (is.vehicle_count ∙ sym also.vehicle_count) same_vehicle_at

    limits_same : (r : ℕ) → HasRightLimit settings batch.riders s r → HasRightLimit settings batch.riders t r
        → ((rider_at s r).leg.latest_pickup ≡ (rider_at t r).leg.latest_pickup) × ((rider_at s r).lapsed ≡ (rider_at t r).lapsed)
    limits_same r (inl a) (inl b) = (a.1 ∙ sym b.1, a.2 ∙ sym b.2)
    limits_same r (inl a) (inr b) = absurd (b.0 (subst (λ (vs : List SettledVehicle). IsHeld vs r) same_vehicles a.0))
    limits_same r (inr a) (inl b) = absurd (a.0 (subst (λ (vs : List SettledVehicle). IsHeld vs r) (sym same_vehicles) b.0))
    limits_same r (inr a) (inr b) = (a.1 ∙ sym b.1, a.2 ∙ sym b.2)

    same_rider_at : (r : ℕ) → r < length s.riders → rider_at s r ≡ rider_at t r
    same_rider_at r within =
        let within' : r < length t.riders = (let n = is.rider_count in let m = also.rider_count in omega (arith, n, m)) in
        let x = request_at batch.riders r in
        let at = slice_get-get_or batch.riders r no_request (let n = is.rider_count in omega (arith, n, within)) in
        let limits = limits_same r (is.limits r within) (also.limits r within') in
        let leg = leg_same settings points up tau batch s t is also r within (rider_at s r).leg.latest_pickup ∙
        ap (λ (x : ℕ). record (rider_at t r).leg { latest_pickup = x }) limits.0 in
        λ k. record { id = (is.ids r x at ∙ sym (also.ids r x at)) k; leg = leg k; lapsed = limits.1 k }

    -- a batch settles in one way
    pub one_settling : s ≡ t
    one_settling =
        let riders = ext_get_or no_rider s.riders t.riders (is.rider_count ∙ sym also.rider_count) same_rider_at in
        λ k. record {
          now = (is.now ∙ sym also.now) k;
          dwell = (is.dwell ∙ sym also.dwell) k;
          most_seats = (is.most_seats ∙ sym also.most_seats) k;
          vehicles =
              same_vehicles k;
          riders = riders k;
        }
