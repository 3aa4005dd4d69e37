use Rattle.std.proofs.Common.{◌≡◌, ◌+◌, ◌-◌, ◌≤◌, length}
use Rattle.trip_graph.proofs.Common.{batch_of, tau_of, AreLevelsUpTo, row_total}
use Rattle.trip_graph.proofs.batch.levels.next_level.Given as goal

abbrev pub invariant-runs : goal.invariant-runs
invariant-runs g l = record {
  level : AreLevelsUpTo (tau_of l.growth) (batch_of l.growth) (l.size + 1) (length l.lists.items) l.lists.items;
  counted : l.total ≡ row_total l.lists.items;
  fits : l.total ≤ l.room;
  within : length l.lists.items ≤ length l.below;
}

abbrev pub decreases-runs : goal.decreases-runs
decreases-runs g l = length l.below - length l.lists.items
