use Rattle.std.proofs.Common.{◌+◌, ◌-◌, ◌≤◌, length}
use Rattle.trip_graph.proofs.Common.{AreNext}
use Rattle.trip_graph.proofs.batch.run.next_run.Given as goal

abbrev pub invariant-vehicles : goal.invariant-vehicles
invariant-vehicles l = record {
  next : AreNext l.lists l.from l.vehicles.items l.end;
  counted : length l.vehicles.items + l.from ≤ l.end;
  within : l.end ≤ length l.lists;
}

abbrev pub decreases-vehicles : goal.decreases-vehicles
decreases-vehicles l = length l.lists - l.end
