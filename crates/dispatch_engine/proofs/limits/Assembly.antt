use Rattle.std.proofs.Common.{
  rules,
  ◌≡◌,
  ℕ,
  suc,
  ◌+◌,
  ◌<◌,
  ◌≤◌,
  inl,
  inr,
  true,
  false,
  eqb,
  List,
  [],
  ◌∷◌,
  length,
  map,
  get_or,
  Some,
  None,
  Option,
  ◌⊎◌,
  Bool,
  MatchBool,
  refl,
  sym,
  ap,
  ◌∙◌,
  subst,
  arith,
  ⊎_elim,
}
use Rattle.dispatch_engine.proofs.Common.{
  option_map_or,
  length-map,
  get_or-map,
  get_or_default,
  filter_passes,
  slice_get-get_or,
  Promise,
  Rider,
  Vehicle,
  Batch,
  Leg,
  SettledRider,
  SettledVehicle,
  IsLeg,
  IsServable,
  no_rider,
  no_vehicle,
  greatest,
  IsTrip,
  vehicle_task,
  IsShort,
  IsSound,
  IsSoundVehicle,
  Settings,
  request_at,
  no_request,
  kept_leg,
  ArePlain,
  is_promised_to,
  promised_to,
  kept_legs,
  IsLive,
  kept_rider,
  IsHeld,
  AreKept,
  HoldsPromised,
  HasRightLimit,
  IsLegOf,
  IsSettled,
  IsSettledVehicle,
  AreSettledVehicles,
  slice_get_within,
}
use Rattle.std.specs.List.{All, Contains, slice_get}
use Rattle.std.proofs.lemmas.Bool.Decides.{nat_tests, Decides-eqb}
use Rattle.pool_base.specs.TravelTime.{longest}
use Rattle.request_book.specs.values.Kept.{IsKept}
use Rattle.stop_orders.specs.declared.task.settled.Settled.{Settled}
use Rattle.dispatch_engine.proofs.lemmas.limits.Promises.{some_at, rising_once, promised_trip}
use Rattle.dispatch_engine.proofs.limits.Seats.{kept_leg_valid, legs_valid, task_with_legs, plain_can_be_kept}

maps_same : {X Y : Type 0} (f : X → ℕ) (g : Y → ℕ) (d : Y) (xs : List X) (ys : List Y) → length ys ≡ length xs
    → ((k : ℕ) (x : X) → slice_get xs k ≡ Some x → g (get_or ys k d) ≡ f x) → map g ys ≡ map f xs
maps_same f g d [] [] e h = refl
maps_same f g d [] (y ∷ ys) e h = absurd (omega arith)
maps_same f g d (x ∷ xs) [] e h = absurd (omega arith)
maps_same f g d (x ∷ xs) (y ∷ ys) e h =
    let first = h 0 x refl in let rest = maps_same f g d xs ys (omega arith) (λ k z s. h (suc k) z s) in (cc (first, rest))

maps_on : {Y : Type 0} (f g : ℕ → Y) (t : List ℕ) → ((k : ℕ) → k < length t → f (get_or t k 0) ≡ g (get_or t k 0)) → map f t ≡ map g t
maps_on f g [] h = refl
maps_on f g (x ∷ xs) h =
    let first = h 0 (omega arith) in let rest = maps_on f g xs (λ k lt. h (suc k) (omega arith)) in (cc (first, rest))

-- one promise names one vehicle
one_vehicle : (promise : Option Promise) (a b : ℕ) → option_map_or (λ p. eqb p.vehicle a) promise false ≡ true →
    option_map_or (λ p. eqb p.vehicle b) promise false ≡ true → a ≡ b
one_vehicle None a b h k = absurd (cc (h, k))
one_vehicle (Some p) a b h k = sym ((Decides-eqb p.vehicle a).0 h) ∙ (Decides-eqb p.vehicle b).0 k

-- who is promised to a vehicle is promised to it
promised_passes : (id : ℕ) (requests : List Rider) (r : ℕ) → Contains (promised_to id requests) r → is_promised_to id (request_at requests r) ≡ true
promised_passes id requests r c = search (rules, filter_passes)

none_in_nil : {X : Type 0} (x : X) → Contains [] x → ⊥
none_in_nil x c = let lt = c.1 in omega arith

-- a vehicle is live by any list of riders in which those promised to it have the same legs
live_with : (settings : Settings) (tau : ℕ → ℕ → ℕ) (requests : List Rider) (riders others : List SettledRider) (v : SettledVehicle)
    → kept_legs settings.wait requests riders (promised_to v.id requests) ≡ kept_legs settings.wait requests others (promised_to v.id requests) →
    IsLive settings tau requests riders v → IsLive settings tau requests others v
live_with settings tau requests riders others v same l = record {
  few = l.few;
  servable =
      subst (λ (legs : List Leg). IsServable tau (vehicle_task settings.dwell v legs)) same l.servable;
}

-- with nobody but its passengers a vehicle is served exactly where it is not late
pub nobody_served : (P : List ℕ → Type 0) (most : ℕ) (late : Bool) (trip : List ℕ) → MatchBool late (P [] → ⊥) (P []) →
    (0 < length trip → length trip ≤ most → P trip → ⊥)
    → ((length trip ≤ most) × P trip × ([] ≡ trip)) ⊎ (length trip ≤ most → P trip → ⊥)
nobody_served P most true [] late none = inr (λ few served. late served)
nobody_served P most false [] late none = inl (omega arith, late, refl)
nobody_served P most late (x ∷ xs) is none = inr (none (omega arith))

module _ (settings : Settings) (points : List ℕ) (tau : ℕ → ℕ → ℕ) (batch : Batch) (plain : List SettledRider) (vehicles : List SettledVehicle)
    (av : AreSettledVehicles settings points tau batch.sealed_at batch.riders plain batch.vehicles vehicles) where
  -- each number that some vehicle holds is a rider's
  pub held_below : (v : ℕ) → v < length vehicles → (k : ℕ) → k < length (get_or vehicles v no_vehicle).held.items →
      get_or (get_or vehicles v no_vehicle).held.items k 0 < length batch.riders
  held_below v h k lt =
      let at = some_at batch.vehicles v (let e = av.count in omega arith) in
      ⊎_elim (λ w. subst (λ (t : List ℕ). k < length t → get_or t k 0 < length batch.riders) (sym w.1)
      (λ l. (promised_trip (get_or vehicles v no_vehicle).id batch.riders).within k 0 l) lt)
      (λ w. absurd (let none : length (get_or vehicles v no_vehicle).held.items ≡ 0 = ap length w.1 in omega arith)) (av.each v at.0 at.1).held

  pub held_numbers : All (λ (v : SettledVehicle). All (λ k. k < length batch.riders) v.held.items) vehicles
  held_numbers k d lt = grind (arith, nat_tests, get_or_default, (held_below k lt))

module _ (settings : Settings) (points : List ℕ) (tau : ℕ → ℕ → ℕ) (batch : Batch) (plain : List SettledRider) (vehicles : List SettledVehicle)
    (riders : List SettledRider)
    (pl : ArePlain settings points tau batch.riders plain)
    (av : AreSettledVehicles settings points tau batch.sealed_at batch.riders plain batch.vehicles vehicles)
    (ak : AreKept settings.wait batch.riders plain (IsHeld vehicles) plain riders) where
  abbrev pub assembled : Settled
  assembled = record {
    now = batch.sealed_at;
    dwell = settings.dwell;
    most_seats = greatest (map (λ v. v.seats) batch.vehicles);
    vehicles = vehicles;
    riders =
        riders;
  }

  rider_total : length riders ≡ length batch.riders
  rider_total = ak.count ∙ pl.count

  -- what holds of a rider with the wait alone and with the promise holds of the settled one
  settled_rider : (P : SettledRider → Type 0) (r : ℕ) → r < length batch.riders → P (get_or plain r no_rider) →
      P (kept_rider settings.wait (request_at batch.riders r) (get_or plain r no_rider)) → P (get_or riders r no_rider)
  settled_rider P r h is kept = ⊎_elim (λ w. subst P (sym w.1) kept) (λ w. subst P (sym w.1) is) (ak.each r (let e = pl.count in omega arith))

  one_of : (v : ℕ) → v < length vehicles → (x : Vehicle) × (slice_get batch.vehicles v ≡ Some x) × IsSettledVehicle settings points tau batch.sealed_at
      batch.riders plain x (get_or vehicles v no_vehicle)
  one_of v h =
      let at = some_at batch.vehicles v (let e = av.count in omega arith) in (at.0, at.1, av.each v at.0 at.1)

  same_legs : (id : ℕ) → kept_legs settings.wait batch.riders plain (promised_to id batch.riders) ≡ kept_legs settings.wait batch.riders riders
      (promised_to id batch.riders)
  same_legs id =
      let leg = λ (y : SettledRider) (k : ℕ). kept_leg settings.wait (request_at batch.riders k) y.leg in
      maps_on (λ k. leg (get_or plain k no_rider) k) (λ k. leg (get_or riders k no_rider) k) (promised_to id batch.riders) (λ i lt.
      let k = get_or (promised_to id batch.riders) i 0 in
      settled_rider (λ y. leg (get_or plain k no_rider) k ≡ leg y k) k ((promised_trip id batch.riders).within i 0 lt) refl refl)

  -- who is held was promised, by a live vehicle
  held_promised : (v : SettledVehicle) (r : ℕ) → HoldsPromised settings tau batch.riders plain v → Contains v.held.items r
      → IsLive settings tau batch.riders plain v × (v.held.items ≡ promised_to v.id batch.riders) × (is_promised_to v.id (request_at batch.riders r) ≡ true)
  held_promised v r (inl w) c = (w.0, w.1, promised_passes v.id batch.riders r (subst (λ (t : List ℕ). Contains t r) w.1 c))
  held_promised v r (inr w) c = absurd (none_in_nil r (subst (λ (t : List ℕ). Contains t r) w.1 c))

  right_limit : (r : ℕ) → r < length riders → HasRightLimit settings batch.riders assembled r
  right_limit r h =
      let one = pl.each r (request_at batch.riders r) (slice_get-get_or batch.riders r no_request (let e = rider_total in omega arith)) in
      ⊎_elim (λ w. inl (w.0, ap (λ (y : SettledRider). y.leg.latest_pickup) w.1, ap (λ (y : SettledRider). y.lapsed) w.1))
      (λ w. inr (w.0, ap (λ (y : SettledRider). y.leg.latest_pickup) w.1 ∙ one.leg.latest_pickup, ap (λ (y : SettledRider). y.lapsed) w.1 ∙ one.lapsed))
      (ak.each r (let e = ak.count in omega arith))

  rider_id : (r : ℕ) (x : Rider) → slice_get batch.riders r ≡ Some x → (get_or riders r no_rider).id ≡ x.id
  rider_id r x e = let one = pl.each r x e in settled_rider (λ y. y.id ≡ x.id) r (slice_get_within batch.riders r x e) one.id one.id

  rider_leg : (r : ℕ) (x : Rider) → slice_get batch.riders r ≡ Some x → IsLegOf settings points tau x.origin x.destination x.time x.party
      (record (get_or riders r no_rider).leg { latest_pickup = x.time + settings.wait })
  rider_leg r x e =
      let leg = (pl.each r x e).leg in
      let plain_leg : IsLegOf settings points tau x.origin x.destination x.time x.party (record (get_or plain r no_rider).leg
      { latest_pickup = x.time + settings.wait }) =
      record {
        origin_place = leg.origin_place;
        destination_place = leg.destination_place;
        latest_pickup = refl;
        ideal = leg.ideal;
        latest_dropoff =
            leg.latest_dropoff;
        size = leg.size;
      } in
      settled_rider (λ y. IsLegOf settings points tau x.origin x.destination x.time x.party (record y.leg { latest_pickup = x.time + settings.wait })) r
      (slice_get_within batch.riders r x e) plain_leg plain_leg

  pub settled_right : IsSettled settings points tau batch assembled
  settled_right =
      record {
        now = refl;
        dwell = refl;
        most_seats = refl;
        vehicle_count = av.count;
        rider_count = rider_total;
        placed = λ v x e. (av.each v x e).placed;
        late = λ v h. (one_of v h).2.late;
        held = λ v h.
            let y = get_or vehicles v no_vehicle in
            ⊎_elim (λ w. inl (live_with settings tau batch.riders plain riders y (same_legs y.id) w.0, w.1))
            (λ w. inr (λ l. w.0 (live_with settings tau batch.riders riders plain y (sym (same_legs y.id)) l), w.1)) (one_of v h).2.held;
        ids = rider_id;
        legs = rider_leg;
        limits = right_limit;
      }

  valid_rider : (r : ℕ) → r < length riders → IsLeg (length points) (get_or riders r no_rider).leg × IsShort (get_or riders r no_rider).leg
  valid_rider r h =
      let inside : r < length batch.riders = (let e = rider_total in omega arith) in
      let can = plain_can_be_kept settings points tau batch.riders plain pl r inside in
      let one = pl.each r (request_at batch.riders r) (slice_get-get_or batch.riders r no_request inside) in
      settled_rider (λ y. IsLeg (length points) y.leg × IsShort y.leg) r inside (one.valid, one.short)
      (kept_leg_valid (length points) settings.wait (request_at batch.riders r) (get_or plain r no_rider).leg can, one.short)

  -- the legs of who is held are those as promised
  held_legs : (v : ℕ) → v < length vehicles → map (λ k. (get_or riders k no_rider).leg) (get_or vehicles v no_vehicle).held.items ≡ kept_legs settings.wait
      batch.riders plain (get_or vehicles v no_vehicle).held.items
  held_legs v h =
      let held = (get_or vehicles v no_vehicle).held.items in
      maps_on (λ k. (get_or riders k no_rider).leg) (λ k. kept_leg settings.wait (request_at batch.riders k) (get_or plain k no_rider).leg) held (λ k lt.
      let r = get_or held k 0 in
      let there : Contains held r = (k, lt, get_or_default held k r 0 lt) in
      let inside : r < length batch.riders = held_below settings points tau batch plain vehicles av v h k lt in
      ⊎_elim (λ w. ap (λ (y : SettledRider). y.leg) w.1) (λ w. absurd (w.0 (v, h, there))) (ak.each r (let n = pl.count in omega arith)))

  held_trip : (v : ℕ) → v < length vehicles → IsTrip (length riders) (get_or vehicles v no_vehicle).held.items
  held_trip v h =
      let n : length batch.riders ≡ length riders = sym rider_total in
      ⊎_elim (λ w. subst (IsTrip (length riders)) (sym w.1) (subst (λ (k : ℕ). IsTrip k (promised_to (get_or vehicles v no_vehicle).id batch.riders)) n
      (promised_trip (get_or vehicles v no_vehicle).id batch.riders)))
      (λ w. subst (IsTrip (length riders)) (sym w.1) (record { rising = λ k lt. absurd (omega arith); within = λ k d lt. absurd (omega arith) }))
      (one_of v h).2.held

  sound_vehicle : (v : ℕ) → v < length vehicles → IsSoundVehicle settings.trip (length points) tau assembled v
  sound_vehicle v h =
      let one = one_of v h in let good = one.2 in let y = get_or vehicles v no_vehicle in
      record {
        ready = (let is = good.placed.ready in omega arith);
        tasks = λ trip t few. task_with_legs (length points) settings.dwell y (map (λ r. (get_or riders r no_rider).leg) trip) good.valid
            (legs_valid (length points) (λ r. (get_or riders r no_rider).leg) trip (λ k d lt. (valid_rider (get_or trip k d) (t.within k d lt)).0))
            (let n = length-map trip (λ (r : ℕ). (get_or riders r no_rider).leg) in omega arith);
        short = good.short;
        late = good.late;
        held = held_trip v h;
        held_size = ⊎_elim (λ w. let few = w.0.few in let n : length y.held.items ≡ length (promised_to y.id batch.riders) = ap length w.1 in omega arith)
            (λ w. let none : length y.held.items ≡ 0 = ap length w.1 in omega arith) good.held;
        held_servable = λ some. ⊎_elim
            (λ w.
            let legs : kept_legs settings.wait batch.riders plain (promised_to y.id batch.riders) ≡ map (λ k. (get_or riders k no_rider).leg) y.held.items =
            ap (λ (t : List ℕ). kept_legs settings.wait batch.riders plain t) (sym w.1) ∙ sym (held_legs v h) in
            subst (λ (l : List Leg). IsServable tau (vehicle_task settings.dwell y l)) legs w.0.servable)
            (λ w. absurd (let none : length y.held.items ≡ 0 = ap length w.1 in omega arith)) good.held;
      }

  pub settled_sound : IsKept batch → batch.sealed_at ≤ longest → IsSound settings.trip (length points) tau assembled
  settled_sound kept early =
      let ids : map (λ (v : SettledVehicle). v.id) vehicles ≡ map (λ (v : Vehicle). v.id) batch.vehicles =
      maps_same (λ (v : Vehicle). v.id) (λ (v : SettledVehicle). v.id) no_vehicle batch.vehicles vehicles av.count (λ k x e. (av.each k x e).placed.id) in
      record {
        vehicle_count = (let e = av.count in let most = kept.vehicle_count in omega arith);
        rider_count = (let e = rider_total in let most = kept.rider_count in omega arith);
        vehicle_ids = rw ids kept.vehicles_rise;
        rider_ids = rw (maps_same (λ (r : Rider). r.id) (λ (r : SettledRider). r.id) no_rider batch.riders riders rider_total rider_id) kept.riders_rise;
        now = early;
        most_seats = ap greatest (sym (maps_same (λ (v : Vehicle). v.seats) (λ (v : SettledVehicle). v.seats) no_vehicle batch.vehicles vehicles av.count
            (λ k x e. (av.each k x e).placed.seats)));
        short = λ k d lt. subst (λ (y : SettledRider). IsShort y.leg) (get_or_default riders k no_rider d lt) (valid_rider k lt).1;
        each = sound_vehicle;
        apart = λ v w r hv hw cv cw.
            let pv = held_promised (get_or vehicles v no_vehicle) r (one_of v hv).2.held cv in
            let pw = held_promised (get_or vehicles w no_vehicle) r (one_of w hw).2.held cw in
            let same = one_vehicle (request_at batch.riders r).promise (get_or vehicles v no_vehicle).id (get_or vehicles w no_vehicle).id pv.2 pw.2 in
            let n = length-map vehicles (λ (x : SettledVehicle). x.id) in
            let iv = get_or-map (λ (x : SettledVehicle). x.id) vehicles v no_vehicle 0 hv in
            let iw = get_or-map (λ (x : SettledVehicle). x.id) vehicles w no_vehicle 0 hw in
            rising_once (map (λ (x : SettledVehicle). x.id) vehicles) (rw ids kept.vehicles_rise) v w (omega arith) (omega arith) (iv ∙ same ∙ sym iw);
      }
