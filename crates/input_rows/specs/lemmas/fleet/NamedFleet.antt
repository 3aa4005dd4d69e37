-- Parts of a fleet's rows, as proofs call them.
use Rattle.std.specs.Prelude.{ℕ, ◌+◌, List, [], Result, take, slice_index_or}
use Rattle.request_book.specs.declared.values.vehicle.Vehicle.{Vehicle}
use Rattle.input_rows.specs.fleet.Vehicle.{vehicle_in}
use Rattle.input_rows.specs.declared.fleet.fault.FleetFault.{FleetFault}

-- a vehicle at a node, with nobody aboard
abbrev pub empty_vehicle : ℕ → ℕ → ℕ → ℕ → Vehicle
empty_vehicle id seats node time = record { id = id; seats = seats; node = node; time = time; aboard = record { items = [] } }

-- the vehicle of the row at a place, where these are the nodes, or why the row is refused
abbrev pub vehicle_of_row : List ℕ → List (List (List ℕ)) → ℕ → Result Vehicle FleetFault
vehicle_of_row nodes records place = vehicle_in nodes (take place records) (place + 1) (slice_index_or records place [])
