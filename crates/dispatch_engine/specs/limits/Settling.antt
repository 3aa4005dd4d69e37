use Rattle.std.specs.Prelude.{◌≡◌, ℕ, ◌+◌, ◌<◌, ◌⊎◌, false, Contains, List, [], length, map, max, Some, slice_get, MatchBool, is_some}
use Rattle.request_book.specs.declared.values.passenger.Passenger.{Passenger}
use Rattle.request_book.specs.declared.values.batch_rider.Rider.{Rider}
use Rattle.request_book.specs.declared.values.vehicle.Vehicle.{Vehicle}
use Rattle.request_book.specs.values.Batch.{Batch}
use Rattle.stop_orders.specs.declared.task.settled_vehicle.SettledVehicle.{SettledVehicle}
use Rattle.stop_orders.specs.declared.task.settled.Settled.{Settled}
use Rattle.stop_orders.specs.task.Task.{IsServable, leg_at}
use Rattle.stop_orders.specs.task.Settled.{vehicle_at, rider_at, greatest, vehicle_task}
use Rattle.rider_limits.specs.declared.settings.Settings.{Settings}
use Rattle.dispatch_engine.specs.limits.Requests.{IsLegOf, request_at}
use Rattle.dispatch_engine.specs.limits.Promised.{promised_limit, promised_to, IsLive}

-- a vehicle with its place, the second from which on it can leave, and its passengers with their legs, in order
pub record IsPlaced (settings : Settings) (points : List ℕ) (tau : ℕ → ℕ → ℕ) (now : ℕ) (x : Vehicle) (y : SettledVehicle) : Type 0 where
  pub id : y.id ≡ x.id
  pub start : slice_get points y.start ≡ Some x.node
  pub ready : y.ready ≡ max x.time now
  pub seats : y.seats ≡ x.seats
  pub aboard_count : length y.aboard.items ≡ length x.aboard.items
  pub aboard_legs : (k : ℕ) (p : Passenger) → slice_get x.aboard.items k ≡ Some p → IsLegOf settings points tau p.origin p.destination p.time p.party (leg_at y.aboard.items k)
  pub aboard_ids : y.aboard_ids.items ≡ map (λ p. p.rider) x.aboard.items

-- a rider whom a vehicle keeps has the promised limit; of another one the wait alone counts, and a promise has lapsed
abbrev pub HasRightLimit : Settings → List Rider → Settled → ℕ → Type 0
HasRightLimit settings requests settled r =
    (((v : ℕ) × (v < length settled.vehicles) × Contains (vehicle_at settled v).held.items r)
    × ((rider_at settled r).leg.latest_pickup ≡ promised_limit settings.wait (request_at requests r)) × ((rider_at settled r).lapsed ≡ false))
    ⊎ (((v : ℕ) × (v < length settled.vehicles) × Contains (vehicle_at settled v).held.items r → ⊥)
    × ((rider_at settled r).leg.latest_pickup ≡ (request_at requests r).time + settings.wait) × ((rider_at settled r).lapsed ≡ is_some (request_at requests r).promise))

-- the batch with its places, limits, late vehicles, and promises kept or lapsed
pub record IsSettled (settings : Settings) (points : List ℕ) (tau : ℕ → ℕ → ℕ) (batch : Batch) (settled : Settled) : Type 0 where
  pub now : settled.now ≡ batch.sealed_at
  pub dwell : settled.dwell ≡ settings.dwell
  pub most_seats : settled.most_seats ≡ greatest (map (λ v. v.seats) batch.vehicles)
  pub vehicle_count : length settled.vehicles ≡ length batch.vehicles
  pub rider_count : length settled.riders ≡ length batch.riders
  pub placed : (v : ℕ) (x : Vehicle) → slice_get batch.vehicles v ≡ Some x → IsPlaced settings points tau batch.sealed_at x (vehicle_at settled v)
  -- a vehicle is late exactly where no order serves its passengers alone
  pub late : (v : ℕ) → v < length settled.vehicles
      → MatchBool (vehicle_at settled v).late (IsServable tau (vehicle_task settings.dwell (vehicle_at settled v) []) → ⊥) (IsServable tau (vehicle_task settings.dwell (vehicle_at settled v) []))
  -- a live vehicle keeps all riders promised to it, another one none
  pub held : (v : ℕ) → v < length settled.vehicles
      → (IsLive settings tau batch.riders settled.riders (vehicle_at settled v) × ((vehicle_at settled v).held.items ≡ promised_to (vehicle_at settled v).id batch.riders))
      ⊎ ((IsLive settings tau batch.riders settled.riders (vehicle_at settled v) → ⊥) × ((vehicle_at settled v).held.items ≡ []))
  pub ids : (r : ℕ) (x : Rider) → slice_get batch.riders r ≡ Some x → (rider_at settled r).id ≡ x.id
  -- a rider's leg, but for the latest pickup
  pub legs : (r : ℕ) (x : Rider) → slice_get batch.riders r ≡ Some x
      → IsLegOf settings points tau x.origin x.destination x.time x.party (record (rider_at settled r).leg { latest_pickup = x.time + settings.wait })
  pub limits : (r : ℕ) → r < length settled.riders → HasRightLimit settings batch.riders settled r
