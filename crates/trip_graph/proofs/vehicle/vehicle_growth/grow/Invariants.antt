use Rattle.std.proofs.Common.{◌+◌, ◌*◌, ◌≤◌, length}
use Rattle.trip_graph.proofs.Common.{travel_time, CanServe, CostsLeast, AreRowsOfSize}
use Rattle.trip_graph.proofs.vehicle.Joined.{AreSmaller}
use Rattle.trip_graph.proofs.vehicle.vehicle_growth.grow.Given as goal

abbrev pub invariant-loop-size : goal.invariant-loop-size
invariant-loop-size g l = record {
  below : AreRowsOfSize (travel_time l.times) l.settled l.vehicle l.size l.below;
  smaller : AreSmaller (CanServe 6 (travel_time l.times) l.settled l.vehicle) (CostsLeast (travel_time l.times) l.settled l.vehicle) l.size l.smaller.items;
  room : length l.smaller.items + length l.below ≤ l.room;
  cost : l.steps ≤ l.fn.steps + (length l.smaller.items * length l.settled.riders + 1);
}
