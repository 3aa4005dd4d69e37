use Rattle.std.proofs.Common.{◌≡◌, ◌+◌, ◌≤◌}
use Rattle.trip_graph.proofs.Common.{batch_of, tau_of, AreLevelsUpTo, row_total}
use Rattle.trip_graph.proofs.batch.levels.skip_to.Given as goal

abbrev pub invariant-loop-vehicle : goal.invariant-loop-vehicle
invariant-loop-vehicle l = record {
  level : AreLevelsUpTo (tau_of l.run.growth.now) (batch_of l.run.growth.now) (l.run.size + 1) l._vehicle l.lists.items;
  total : row_total l.lists.items ≡ row_total l.initial.lists.items;
  end : l._vehicle ≤ l.end;
}
