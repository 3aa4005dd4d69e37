use Rattle.std.specs.Prelude.{ℕ, List, map, slice_index_or, []}
use Rattle.std.specs.List.{flat_map}
use Rattle.trip_graph.specs.declared.vehicle.trip_of.TripOf.{TripOf}
use Rattle.plan_rules.specs.declared.row.TripRow.{TripRow}

-- a vehicle's trip as a row of the graph
abbrev pub trip_row : ℕ → TripOf → TripRow
trip_row vehicle trip = record { vehicle = vehicle; riders = trip.riders; cost = trip.cost }

-- the rows of a vehicle, size by size
abbrev pub vehicle_rows : List (List (List TripOf)) → ℕ → List TripRow
vehicle_rows levels vehicle = flat_map (λ lists. map (trip_row vehicle) (slice_index_or lists vehicle [])) levels
