use Rattle.std.proofs.Common.{◌≡◌}
use Rattle.trip_graph.proofs.Common.{edges_upto}
use Rattle.trip_graph.proofs.batch.edges.edges_of.Given as goal

abbrev pub invariant-loop-vehicle : goal.invariant-loop-vehicle
invariant-loop-vehicle l = l.edges.items ≡ edges_upto l.singles l.vehicle
