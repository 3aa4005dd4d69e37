use Rattle.trip_graph.proofs.Common.{travel_time, IsRrGraphUpTo}
use Rattle.trip_graph.proofs.pairs.rider_rider_graph.all_pairs.Given as goal

abbrev pub invariant-loop-first : goal.invariant-loop-first
invariant-loop-first g l = IsRrGraphUpTo (travel_time l.times) l.settled l.first 0 l.pairs.items
