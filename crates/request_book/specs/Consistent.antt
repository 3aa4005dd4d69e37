use Rattle.std.specs.Prelude.{◌≡◌, ℕ, ◌≤◌, ◌==◌, true, List, length, Option, None, Some, option_and_then, if◌then◌else◌, is_some, option_map, count_by}
use Rattle.std.specs.List.{All}
use Rattle.request_book.specs.values.Batch.{Batch}
use Rattle.request_book.specs.Points.{named_nodes}
use Rattle.request_book.specs.values.Vehicle.{HasSeats}
use Rattle.request_book.specs.declared.values.vehicle.Vehicle.{Vehicle}
use Rattle.request_book.specs.declared.values.passenger.Passenger.{Passenger}
use Rattle.request_book.specs.declared.values.rider.BookRider.{BookRider}
use Rattle.request_book.specs.declared.values.rider.Status.{Status}
use Rattle.request_book.specs.declared.values.state.State.{State}
use Rattle.request_book.specs.values.Keyed.{KeysRise, KeysDiffer}
use Rattle.request_book.specs.values.Rider.{vehicle_of, passenger_of, is_active}
use Rattle.request_book.specs.values.State.{find_rider, find_vehicle, find_passenger}
use Rattle.road_network.specs.Roads.{has_node}

-- the rider as a passenger of this vehicle, if their status says so
abbrev pub seat_in : ℕ → BookRider → Option Passenger
seat_in vehicle r = option_and_then (λ v. if v == vehicle then Some (passenger_of r) else None) (vehicle_of r.status)

-- what the riders and the vehicles of a book keep
pub record AreConsistent (riders : List BookRider) (vehicles : List Vehicle) : Type 0 where
  pub vehicle_count : length vehicles ≤ 500
  pub rider_count : length riders ≤ 100000
  pub pool : count_by (λ r. is_active r.status) riders ≤ 1000
  -- each rider and each vehicle stands once; vehicles by rising id
  pub riders_differ : KeysDiffer (λ r. r.id) riders
  pub vehicles_rise : KeysRise (λ v. v.id) vehicles
  -- no vehicle has more persons than seats, nor a passenger twice
  pub seats : All HasSeats vehicles
  pub passengers : All (λ v. KeysDiffer (λ p. p.rider) v.aboard.items) vehicles
  -- a rider is in the list of exactly the vehicle that their status names
  pub aboard : (vehicle rider : ℕ) → option_and_then (λ v. find_passenger rider v.aboard.items) (find_vehicle vehicle vehicles) ≡ option_and_then (seat_in vehicle) (find_rider rider riders)

-- what every state of a book keeps
abbrev pub IsConsistent : State → Type 0
IsConsistent s = AreConsistent s.riders s.vehicles

-- the node is one of the network's
abbrev pub IsNode : List ℕ → ℕ → Type 0
IsNode nodes node = has_node nodes node ≡ true

-- the state names nodes of the network alone
pub record NamesNodes (nodes : List ℕ) (s : State) : Type 0 where
  pub riders : All (λ r. IsNode nodes r.origin × IsNode nodes r.destination) s.riders
  pub vehicles : All (λ v. IsNode nodes v.node) s.vehicles
  pub sealed : (b : Batch) → s.sealed ≡ Some b → All (IsNode nodes) (named_nodes b)

-- the rider is in the list of the vehicle
abbrev pub IsPassenger : State → ℕ → ℕ → Type 0
IsPassenger s vehicle rider = is_some (option_and_then (λ v. find_passenger rider v.aboard.items) (find_vehicle vehicle s.vehicles)) ≡ true

-- the status of the rider
abbrev pub status_in : State → ℕ → Option Status
status_in s rider = option_map (λ r. r.status) (find_rider rider s.riders)
