use Rattle.std.proofs.Common.{◌≡◌, ◌+◌, ◌≤◌}
use Rattle.trip_graph.proofs.Common.{travel_time, AreLevels, level_total}
use Rattle.trip_graph.proofs.batch.all_levels.all_levels.Given as goal

abbrev pub invariant-loop-size : goal.invariant-loop-size
invariant-loop-size g l = record {
  levels : AreLevels (travel_time l.growth.times.now) l.growth.settled.now (l.size + 1) l.levels.items;
  counted : l.total ≡ level_total l.levels.items;
  fits : l.total ≤ l.room;
}
