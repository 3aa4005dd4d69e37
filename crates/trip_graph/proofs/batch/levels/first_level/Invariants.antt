use Rattle.std.proofs.Common.{◌≡◌, ◌≤◌}
use Rattle.trip_graph.proofs.Common.{travel_time, AreLevelsUpTo, row_total}
use Rattle.trip_graph.proofs.batch.levels.first_level.Given as goal

abbrev pub invariant-loop-vehicle : goal.invariant-loop-vehicle
invariant-loop-vehicle l = record {
  level : AreLevelsUpTo (travel_time l.growth.times.now) l.growth.settled.now 0 l.vehicle l.lists.items;
  counted : l.total ≡ row_total l.lists.items;
  few : l.total ≤ l.vehicle;
}
