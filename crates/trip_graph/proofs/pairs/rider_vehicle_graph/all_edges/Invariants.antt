use Rattle.trip_graph.proofs.Common.{travel_time, IsRvGraphUpTo}
use Rattle.trip_graph.proofs.pairs.rider_vehicle_graph.all_edges.Given as goal

abbrev pub invariant-loop-vehicle : goal.invariant-loop-vehicle
invariant-loop-vehicle g l = IsRvGraphUpTo (travel_time l.times) l.settled l.vehicle 0 l.edges.items
