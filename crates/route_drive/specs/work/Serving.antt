-- What a vehicle still has to do on a driven day, and that it will do it in time.
--
-- The plan of the proof that no promise lapses. `IsKept` says of a state and of the stops that are on their way, by
-- vehicle: each vehicle's stops are a serving order, from its node and its second, of its passengers and of the riders
-- promised to it, at their seconds. Each round keeps it:
--   the opening state has it (nobody is promised, nobody aboard, nothing on its way);
--   a request keeps it, in any lane: the rider is new, and waits;
--   a stop that is due is answered `picked` or `dropped`, and the stops after it serve from there;
--   the report along a shortest walk keeps it: the rest of a shortest walk is a shortest walk;
--   a seal keeps it: nobody promised is over, since a promised pickup is later than the seal and within the wait;
--   the batch of a seal then has no late vehicle and no lapsed promise: the stops serve by the batch's table;
--   a close with a good plan makes it anew from the chosen trips; after an overflow it stays.
use Rattle.std.specs.Prelude.{◌≡◌, ◌==◌, ℕ, ◌+◌, ◌*◌, ◌-◌, ◌<◌, ◌≤◌, Bool, true, false, MatchBool, List, [], ◌∷◌, Option, None, Some, map, filter, length, if◌then◌else◌}
use Rattle.std.specs.List.{AllByRecursion}
use Rattle.std.specs.Option.{option_map_or}
use Rattle.pool_base.specs.TravelTime.{never}
use Rattle.request_book.specs.values.Batch.{Batch}
use Rattle.request_book.specs.values.Vehicle.{persons_aboard}
use Rattle.request_book.specs.declared.values.promise.Promise.{Promise}
use Rattle.request_book.specs.declared.values.batch_rider.Rider.{Rider}
use Rattle.request_book.specs.declared.values.vehicle.Vehicle.{Vehicle}
use Rattle.request_book.specs.lemmas.register.Closing.{after_answer}
use Rattle.request_book.specs.Consistent.{IsConsistent, NamesNodes}
use Rattle.request_book.specs.values.Keyed.{look_up, KeysRise}
use Rattle.request_book.specs.lemmas.register.Named.{shown, asking}
use Rattle.request_book.specs.values.State.{find_rider, find_vehicle}
use Rattle.request_book.specs.register.Step.{step}
use Rattle.request_book.specs.declared.values.command.Command.{Command}
use Rattle.request_book.specs.declared.values.outcome.ChosenTrip.{ChosenTrip}
use Rattle.request_book.specs.declared.values.outcome.Outcome.{Outcome}
use Rattle.request_book.specs.declared.values.outcome.Planned.{Planned}
use Rattle.request_book.specs.declared.values.outcome.PlannedStop.{PlannedStop}
use Rattle.request_book.specs.declared.values.reply.Reply.{Reply}
use Rattle.request_book.specs.declared.values.rider.BookRider.{BookRider}
use Rattle.request_book.specs.declared.values.rider.Status.{Status}
use Rattle.request_book.specs.declared.values.rider.Status.TheVariants.{Promised, Aboard, Delivered}
use Rattle.request_book.specs.declared.values.state.State.{State}
use Rattle.rider_limits.specs.declared.settings.Settings.{Settings}
use Rattle.road_network.specs.Roads.{Roads, index_in}
use Rattle.road_network.specs.Walk.{IsLeastTime}
use Rattle.route_drive.specs.Promises.{IsDroppedInTime}
use Rattle.route_drive.specs.declared.course.Course.{Course}

-- whoever leaves a node at a second reaches another at a second, by a shortest walk
pub record Leads (roads : Roads) (from left to second : ℕ) : Type 0 where
  pub seconds : ℕ
  pub least : IsLeastTime roads.arcs (index_in roads.nodes from) (index_in roads.nodes to) seconds
  pub short : seconds < never
  pub reached : second ≡ left + seconds

-- the stops are reached one after the other by whoever leaves a node at a second; a dwell lies between two
abbrev pub AreReached : Roads → ℕ → ℕ → ℕ → List PlannedStop → Type 0
AreReached roads dwell node free [] = Unit {0}
AreReached roads dwell node free (stop ∷ stops) =
    Leads roads node free stop.node stop.second × AreReached roads dwell stop.node (stop.second + dwell) stops

-- how many persons get in or out at a stop
abbrev pub party_at : List BookRider → PlannedStop → ℕ
party_at riders stop = option_map_or (λ r. r.party) (find_rider stop.rider riders) 0

-- the free seats after a stop
abbrev pub seats_after : List BookRider → PlannedStop → ℕ → ℕ
seats_after riders stop room = if stop.pick then room - party_at riders stop else room + party_at riders stop

-- every pickup finds its seats free
abbrev pub HasSeatsFor : List BookRider → ℕ → List PlannedStop → Type 0
HasSeatsFor riders room [] = Unit {0}
HasSeatsFor riders room (stop ∷ stops) = (stop.pick ≡ true → party_at riders stop ≤ room) × HasSeatsFor riders (seats_after riders stop room) stops

-- a pickup of a rider to whom it is promised, within the wait
pub record IsRightPickup (wait : ℕ) (riders : List BookRider) (vehicle : ℕ) (stop : PlannedStop) : Type 0 where
  pub rider : BookRider
  pub found : find_rider stop.rider riders ≡ Some rider
  pub status : rider.status ≡ Promised (record { vehicle = vehicle; pickup = stop.second })
  pub node : stop.node ≡ rider.origin
  pub in_time : stop.second ≤ rider.time + wait

-- the rider is promised to the vehicle, or aboard of it
abbrev pub IsOfVehicle : ℕ → Status → Type 0
IsOfVehicle vehicle (Promised promise) = promise.vehicle ≡ vehicle
IsOfVehicle vehicle (Aboard other) = other ≡ vehicle
IsOfVehicle vehicle status = ⊥

-- a drop-off of a rider of the vehicle, in time
pub record IsRightDropoff (roads : Roads) (delay : ℕ) (riders : List BookRider) (vehicle : ℕ) (stop : PlannedStop) : Type 0 where
  pub rider : BookRider
  pub found : find_rider stop.rider riders ≡ Some rider
  pub own : IsOfVehicle vehicle rider.status
  pub node : stop.node ≡ rider.destination
  pub in_time : IsDroppedInTime roads delay rider stop.second

abbrev pub IsRightStop : Settings → Roads → List BookRider → ℕ → PlannedStop → Type 0
IsRightStop settings roads riders vehicle stop =
    MatchBool stop.pick (IsRightPickup settings.wait riders vehicle stop) (IsRightDropoff roads settings.delay riders vehicle stop)

-- of a rider's stops, in their order, which are pickups
abbrev pub is_stop_of : ℕ → PlannedStop → Bool
is_stop_of rider stop = stop.rider == rider

abbrev pub calls_of : ℕ → List PlannedStop → List Bool
calls_of rider stops = map (λ stop. stop.pick) (filter (is_stop_of rider) stops)

-- who is promised to the vehicle has a pickup and then a drop-off, who is aboard a drop-off
abbrev pub HasCalls : ℕ → Status → List Bool → Type 0
HasCalls vehicle (Promised promise) calls = promise.vehicle ≡ vehicle → calls ≡ true ∷ false ∷ []
HasCalls vehicle (Aboard other) calls = other ≡ vehicle → calls ≡ false ∷ []
HasCalls vehicle status calls = Unit {0}

-- the stops are a serving order, at their seconds, of the vehicle's passengers and of the riders promised to it, for
-- the vehicle that is free to leave its node at a second
pub record IsServing (settings : Settings) (roads : Roads) (riders : List BookRider) (v : Vehicle) (free : ℕ) (stops : List PlannedStop) : Type 0 where
  pub reached : AreReached roads settings.dwell v.node free stops
  pub seats : HasSeatsFor riders (v.seats - persons_aboard v) stops
  pub right : AllByRecursion (IsRightStop settings roads riders v.id) stops
  pub calls : (x : ℕ) (r : BookRider) → find_rider x riders ≡ Some r → HasCalls v.id r.status (calls_of x stops)
  -- no more than a trip may have
  pub few : length stops ≤ 2 * settings.trip + length v.aboard.items

-- a promised rider asked before the last seal, and a vehicle of the fleet has the promise
pub record IsPromiseKept (s : State) (r : BookRider) (promise : Promise) : Type 0 where
  pub last : ℕ
  pub sealed : s.last_seal ≡ Some last
  pub asked : r.time ≤ last
  pub vehicle : Vehicle
  pub at : find_vehicle promise.vehicle s.vehicles ≡ Some vehicle

-- what holds of the riders, the vehicles and the names of a state on a driven day
pub record IsDayState (roads : Roads) (s : State) : Type 0 where
  pub consistent : IsConsistent s
  pub named : NamesNodes roads.nodes s
  pub promises : (x : ℕ) (r : BookRider) (promise : Promise) → find_rider x s.riders ≡ Some r → r.status ≡ Promised promise → IsPromiseKept s r promise

-- each vehicle is serving its stops, from its node and second
pub record IsKept (settings : Settings) (roads : Roads) (s : State) (stops : ℕ → List PlannedStop) : Type 0 where
  pub state : IsDayState roads s
  pub each : (id : ℕ) (v : Vehicle) → find_vehicle id s.vehicles ≡ Some v → IsServing settings roads s.riders v v.time (stops id)

-- a rider was promised a pickup by a second, and will be picked up by it, or was
abbrev pub IsBoundBy : ℕ → Status → Type 0
IsBoundBy limit (Promised p) = p.pickup ≤ limit
IsBoundBy limit (Aboard v) = Unit {0}
IsBoundBy limit Delivered = Unit {0}
IsBoundBy limit status = ⊥

pub record IsBound (s : State) (rider limit : ℕ) : Type 0 where
  pub of : BookRider
  pub found : find_rider rider s.riders ≡ Some of
  pub bound : IsBoundBy limit of.status

-- nobody's bound is lost between two states
abbrev pub KeepsBounds : State → State → Type 0
KeepsBounds s t = (rider limit : ℕ) → IsBound s rider limit → IsBound t rider limit

-- what a command of one vehicle leaves of the others
pub record LeavesOthers (settings : Settings) (roads : Roads) (s t : State) (vehicle : ℕ) : Type 0 where
  pub found : (id : ℕ) (w : Vehicle) → (vehicle ≡ id → ⊥) → find_vehicle id t.vehicles ≡ Some w → find_vehicle id s.vehicles ≡ Some w
  pub serve : (id : ℕ) (w : Vehicle) (free : ℕ) (stops : List PlannedStop) → (vehicle ≡ id → ⊥) → find_vehicle id t.vehicles ≡ Some w
      → IsServing settings roads s.riders w free stops → IsServing settings roads t.riders w free stops

-- what a vehicle has after one of its commands
pub record Then (settings : Settings) (roads : Roads) (t : State) (vehicle node time free : ℕ) (stops : List PlannedStop) : Type 0 where
  pub v : Vehicle
  pub at : find_vehicle vehicle t.vehicles ≡ Some v
  pub there : v.node ≡ node
  pub by : v.time ≡ time
  pub serves : IsServing settings roads t.riders v free stops

-- a command of a vehicle that leaves it serving these stops, from a node that it leaves at a second
pub record IsDone (settings : Settings) (roads : Roads) (s : State) (command : Command) (reply : Reply) (vehicle node time free : ℕ) (stops : List PlannedStop) : Type 0 where
  pub t : State
  pub is : step roads.nodes settings.wait s command ≡ (t, reply)
  pub state : IsDayState roads t
  pub own : Then settings roads t vehicle node time free stops
  pub others : LeavesOthers settings roads s t vehicle
  pub bounds : KeepsBounds s t

-- a sealed batch that isn't closed yet, in a state: whom it shows
pub record ShowsRiders (s : State) (b : Batch) : Type 0 where
  pub rise : KeysRise (λ r. r.id) b.riders
  pub shows : (x : ℕ) (y : Rider) → look_up (λ r. r.id) x b.riders ≡ Some y → (r : BookRider) × (find_rider x s.riders ≡ Some r) × (asking b.sealed_at r ≡ Some y)
  pub promised : (x : ℕ) (r : BookRider) (p : Promise) → find_rider x s.riders ≡ Some r → r.status ≡ Promised p → look_up (λ r. r.id) x b.riders ≡ Some (shown r (Some p))
  pub vehicles : b.vehicles ≡ s.vehicles
  pub last : s.last_seal ≡ Some b.sealed_at

-- what leaves all vehicles as they are, and everything that they serve
pub record LeavesAll (settings : Settings) (roads : Roads) (s t : State) : Type 0 where
  pub state : IsDayState roads t
  pub vehicles : t.vehicles ≡ s.vehicles
  pub serve : (id : ℕ) (w : Vehicle) (free : ℕ) (stops : List PlannedStop) → find_vehicle id s.vehicles ≡ Some w → IsServing settings roads s.riders w free stops → IsServing settings roads t.riders w free stops
  pub bounds : KeepsBounds s t
  pub shows : (b : Batch) → ShowsRiders s b → ShowsRiders t b

-- the stops that a plan gives a vehicle
abbrev pub chosen_stops : Planned → ℕ → List PlannedStop
chosen_stops planned id = option_map_or (λ (t : ChosenTrip). t.stops.items) (look_up (λ (t : ChosenTrip). t.vehicle) id planned.chosen) []

-- what is on its way for the vehicle of an id
abbrev pub course_of : List Vehicle → List Course → ℕ → Course
course_of (v ∷ vehicles) (course ∷ courses) id = if v.id == id then course else course_of vehicles courses id
course_of vehicles courses id = record { stops = record { items = [] }; target = None }

-- a state before a seal: every vehicle is reported by its second or later, and serves stops that are all later
pub record IsReadyForSeal (settings : Settings) (roads : Roads) (now : ℕ) (s : State) (stops : ℕ → List PlannedStop) : Type 0 where
  pub kept : IsKept settings roads s stops
  pub reported : (id : ℕ) (v : Vehicle) → find_vehicle id s.vehicles ≡ Some v → now ≤ v.time
  pub later : (id : ℕ) (v : Vehicle) → find_vehicle id s.vehicles ≡ Some v → AllByRecursion (λ stop. now < stop.second) (stops id)

-- every vehicle was reported at a batch's second or later
abbrev pub AreReported : State → Batch → Type 0
AreReported s b = (id : ℕ) (v : Vehicle) → find_vehicle id s.vehicles ≡ Some v → b.sealed_at ≤ v.time

-- the state after the close of a batch
abbrev pub closed : State → Batch → Outcome → State
closed s b outcome = record s { riders = after_answer b.riders outcome.answer s.riders; sealed = None }

-- the stops that are on their way: those of a plan, if there is one
abbrev pub stops_with : Option Planned → (ℕ → List PlannedStop) → ℕ → List PlannedStop
stops_with None stops = stops
stops_with (Some planned) stops = chosen_stops planned
