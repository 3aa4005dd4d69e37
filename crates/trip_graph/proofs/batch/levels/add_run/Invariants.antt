use Rattle.std.proofs.Common.{◌≡◌, ◌+◌, ◌≤◌, drop, length}
use Rattle.trip_graph.proofs.Common.{batch_of, tau_of, AreLevelsUpTo, row_total, AreNext}
use Rattle.trip_graph.proofs.batch.levels.add_run.Given as goal

abbrev pub invariant-loop-level : goal.invariant-loop-level
invariant-loop-level l = record {
  number : l.number ≡ length l.yielded;
  next : AreNext l.run.below.now (length l.lists.items) (drop l.number l.run.vehicles.now) l.end;
  before : AreLevelsUpTo (tau_of l.run.growth.now) (batch_of l.run.growth.now) (l.run.size + 1) (length l.lists.items) l.lists.items;
  counted : l.found ≡ row_total l.lists.items;
  fits : l.found ≤ l.run.room;
  grows : l.run.found ≤ l.found;
}
