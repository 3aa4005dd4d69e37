use Rattle.std.proofs.Common.{◌≡◌, ◌++◌, map, take}
use Rattle.trip_graph.proofs.Common.{trip_row}
use Rattle.trip_graph.proofs.batch.rows.add_trips.Given as goal

abbrev pub invariant-loop-trip : goal.invariant-loop-trip
invariant-loop-trip l = l.rows.items ≡ l.fn.rows.items ++ map (trip_row l.vehicle) (take l.trip-index l.trips)
