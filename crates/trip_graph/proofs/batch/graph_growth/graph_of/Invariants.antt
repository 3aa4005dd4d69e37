use Rattle.std.proofs.Common.{◌≡◌, length}
use Rattle.trip_graph.proofs.Common.{travel_time, AreRowsUpTo, total_upto, HoldRows}
use Rattle.trip_graph.proofs.batch.RowOrder.{AreInOrder}
use Rattle.trip_graph.proofs.batch.graph_growth.graph_of.Given as goal

abbrev pub invariant-loop-vehicle : goal.invariant-loop-vehicle
invariant-loop-vehicle l = record {
  exact : AreRowsUpTo l.settings.trip (travel_time l.times) l.settled l.vehicle l.rows.items;
  order : AreInOrder l.rows.items;
  hold : HoldRows l.settled l.vehicle l.rows.items l.held.items;
  total : length l.rows.items ≡ total_upto l.levels l.vehicle;
}
