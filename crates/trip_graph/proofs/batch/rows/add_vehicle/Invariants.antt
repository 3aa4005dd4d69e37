use Rattle.std.proofs.Common.{◌≡◌, ◌++◌, take}
use Rattle.trip_graph.proofs.Common.{vehicle_rows}
use Rattle.trip_graph.proofs.batch.rows.add_vehicle.Given as goal

abbrev pub invariant-loop-level : goal.invariant-loop-level
invariant-loop-level l = l.rows.items ≡ l.fn.rows.items ++ vehicle_rows (take l.level-index l.levels) l.vehicle
