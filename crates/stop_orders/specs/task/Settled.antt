use Rattle.std.specs.Prelude.{ℕ, ◌<◌, ◌≤◌, false, List, [], ◌∷◌, All, ◌⊎◌, length, map, max, slice_index_or}
use Rattle.std.specs.List.Sorted.{IsStrictlyIncreasing}
use Rattle.stop_orders.specs.declared.task.leg.Leg.{Leg}
use Rattle.stop_orders.specs.declared.task.task.Task.{Task}
use Rattle.stop_orders.specs.declared.task.settled_rider.SettledRider.{SettledRider}
use Rattle.stop_orders.specs.declared.task.settled_vehicle.SettledVehicle.{SettledVehicle}
use Rattle.stop_orders.specs.declared.task.settled.Settled.{Settled}
use Rattle.stop_orders.specs.task.Task.{no_leg, IsServable, IsLeastDelay}

-- what is read where there is no such rider
abbrev pub no_rider : SettledRider
no_rider = record { id = 0; leg = no_leg; lapsed = false }

-- the vehicle of a number; where there is none, one without seats at place 0
abbrev pub vehicle_at : Settled → ℕ → SettledVehicle
vehicle_at settled v = slice_index_or settled.vehicles v (record { id = 0; start = 0; ready = 0; seats = 0; aboard = record { items = [] }; aboard_ids = record { items = [] }; late = false; held = record { items = [] } })

-- the rider of a number
abbrev pub rider_at : Settled → ℕ → SettledRider
rider_at settled r = slice_index_or settled.riders r no_rider

-- the greatest of the numbers, 0 of none
abbrev pub greatest : List ℕ → ℕ
greatest [] = 0
greatest (x ∷ xs) = max x (greatest xs)

-- the task of a vehicle, its passengers, and riders with these legs
abbrev pub vehicle_task : ℕ → SettledVehicle → List Leg → Task
vehicle_task dwell vehicle legs =
    record { start = vehicle.start; ready = vehicle.ready; dwell = dwell; seats = vehicle.seats; aboard = vehicle.aboard; riders = record { items = legs } }

-- the task of two riders with an empty vehicle that is ready now at a place, with the most seats of the fleet
abbrev pub pair_task : Settled → ℕ → ℕ → ℕ → Task
pair_task settled place a b =
    record { start = place; ready = settled.now; dwell = settled.dwell; seats = settled.most_seats; aboard = record { items = [] }; riders = record { items = (rider_at settled a).leg ∷ (rider_at settled b).leg ∷ [] } }

-- a trip: numbers of riders, rising
pub record IsTrip (riders : ℕ) (trip : List ℕ) : Type 0 where
  pub rising : IsStrictlyIncreasing trip
  pub within : All (λ r. r < riders) trip

-- the task of a vehicle with a trip
abbrev pub trip_task : Settled → ℕ → List ℕ → Task
trip_task settled v trip = vehicle_task settled.dwell (vehicle_at settled v) (map (λ r. (rider_at settled r).leg) trip)

-- some order of the vehicle serves the trip, which has at most k riders
pub record CanServe (k : ℕ) (tau : ℕ → ℕ → ℕ) (settled : Settled) (v : ℕ) (trip : List ℕ) : Type 0 where
  pub vehicle : v < length settled.vehicles
  pub riders : IsTrip (length settled.riders) trip
  pub size : length trip ≤ k
  pub servable : IsServable tau (trip_task settled v trip)

-- a vehicle and a trip that it can serve, at the least delay
pub record IsRow (k : ℕ) (tau : ℕ → ℕ → ℕ) (settled : Settled) (v : ℕ) (trip : List ℕ) (cost : ℕ) : Type 0 where
  pub served : CanServe k tau settled v trip
  pub least : IsLeastDelay tau (trip_task settled v trip) cost

-- an empty vehicle that is ready now at the origin of one of the two serves both
pub record IsRrEdge (tau : ℕ → ℕ → ℕ) (settled : Settled) (a b : ℕ) : Type 0 where
  pub below : a < b
  pub within : b < length settled.riders
  pub servable : IsServable tau (pair_task settled (rider_at settled a).leg.origin a b)
      ⊎ IsServable tau (pair_task settled (rider_at settled b).leg.origin a b)
