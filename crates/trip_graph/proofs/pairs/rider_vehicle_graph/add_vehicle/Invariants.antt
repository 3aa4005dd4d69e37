use Rattle.trip_graph.proofs.Common.{travel_time, IsRvGraphUpTo}
use Rattle.trip_graph.proofs.pairs.rider_vehicle_graph.add_vehicle.Given as goal

abbrev pub invariant-loop-rider : goal.invariant-loop-rider
invariant-loop-rider g l = IsRvGraphUpTo (travel_time l.times) l.settled l.vehicle l.rider l.edges.items
