use Rattle.std.specs.Prelude.{◌≡◌, ℕ, List, [], length, Some, slice_get, All, MatchBool, Contains, slice_index_or}
use Rattle.request_book.specs.declared.values.batch_rider.Rider.{Rider}
use Rattle.request_book.specs.declared.values.vehicle.Vehicle.{Vehicle}
use Rattle.stop_orders.specs.declared.task.settled_rider.SettledRider.{SettledRider}
use Rattle.stop_orders.specs.declared.task.settled_vehicle.SettledVehicle.{SettledVehicle}
use Rattle.stop_orders.specs.task.Task.{IsTask, IsServable}
use Rattle.stop_orders.specs.task.Settled.{vehicle_task}
use Rattle.stop_orders.specs.lemmas.task.Named.{no_vehicle}
use Rattle.stop_orders.specs.task.Sound.{IsShort}
use Rattle.rider_limits.specs.declared.settings.Settings.{Settings}
use Rattle.dispatch_engine.specs.limits.Settling.{IsPlaced}
use Rattle.dispatch_engine.specs.lemmas.limits.NamedPromises.{HoldsPromised}
use Rattle.dispatch_engine.specs.work.limits.Requests.{IsBetweenPlaces}

-- a vehicle with its place, whether it is late, and the riders that it keeps; its tasks are valid
pub record IsSettledVehicle (settings : Settings) (points : List ℕ) (tau : ℕ → ℕ → ℕ) (now : ℕ) (requests : List Rider) (riders : List SettledRider) (x : Vehicle) (y : SettledVehicle) : Type 0 where
  pub placed : IsPlaced settings points tau now x y
  pub late : MatchBool y.late (IsServable tau (vehicle_task settings.dwell y []) → ⊥) (IsServable tau (vehicle_task settings.dwell y []))
  pub held : HoldsPromised settings tau requests riders y
  pub valid : IsTask (length points) (vehicle_task settings.dwell y [])
  pub short : All IsShort y.aboard.items

-- the vehicles of the batch, in order
pub record AreSettledVehicles (settings : Settings) (points : List ℕ) (tau : ℕ → ℕ → ℕ) (now : ℕ) (requests : List Rider) (riders : List SettledRider) (xs : List Vehicle) (ys : List SettledVehicle) : Type 0 where
  pub count : length ys ≡ length xs
  pub each : (k : ℕ) (x : Vehicle) → slice_get xs k ≡ Some x → IsSettledVehicle settings points tau now requests riders x (slice_index_or ys k no_vehicle)

-- the places of a vehicle and its passengers
pub record HasVehiclePlaces (points : List ℕ) (x : Vehicle) : Type 0 where
  pub node : Contains points x.node
  pub aboard : All (λ p. IsBetweenPlaces points p.origin p.destination) x.aboard.items
