use Rattle.trip_graph.proofs.Common.{travel_time, IsRrGraphUpTo, IsTaskOfFirst}
use Rattle.trip_graph.proofs.pairs.rider_rider_graph.add_first.Given as goal

abbrev pub invariant-loop-second : goal.invariant-loop-second
invariant-loop-second g l = record {
  upto : IsRrGraphUpTo (travel_time l.times) l.settled l.first l.second l.pairs.items;
  task : IsTaskOfFirst l.settled l.first l.task;
}
