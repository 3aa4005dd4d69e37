use Rattle.std.specs.Prelude.{ℕ, ◌==◌, not, ◌&&◌, List, [], Result, Ok, nat_le}
use Rattle.std.specs.List.{list_any}
use Rattle.pool_base.specs.InOrder.{◌>>=◌, refused_where}
use Rattle.pool_base.specs.Numeral.{number_in, number_at}
use Rattle.request_book.specs.declared.values.vehicle.Vehicle.{Vehicle}
use Rattle.road_network.specs.Roads.{has_node}
use Rattle.input_rows.specs.declared.fleet.fault.FleetFault.{FleetFault}
use Rattle.input_rows.specs.declared.fleet.fault.FleetFault.TheVariants.{Number, Seats, UnknownNode, Duplicate}

-- the vehicle of a row, with nobody aboard, where these are the nodes and the rows before it, or the first refusal;
-- rows count from 1
unfoldable pub vehicle_in : List ℕ → List (List (List ℕ)) → ℕ → List (List ℕ) → Result Vehicle FleetFault
vehicle_in nodes earlier row fields = do
  id ← number_in Number row fields 0
  seats ← number_in Number row fields 1
  node ← number_in Number row fields 2
  time ← number_in Number row fields 3
  _ ← refused_where (not (nat_le 1 seats && nat_le seats 10)) (Seats row)
  _ ← refused_where (not (has_node nodes node)) (UnknownNode row)
  _ ← refused_where (list_any (λ before. number_at before 0 == id) earlier) (Duplicate row)
  Ok (record { id = id; seats = seats; node = node; time = time; aboard = record { items = [] } })
