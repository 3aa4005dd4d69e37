use Rattle.std.proofs.Common.{length}
use Rattle.travel_times.proofs.Common.{IsNetwork, AreTurnedBefore}
use Rattle.travel_times.proofs.labels.hops.hops_back.Given as goal

abbrev pub invariant-loop-node : goal.invariant-loop-node
invariant-loop-node l = record {
  network : IsNetwork l.network;
  turned : AreTurnedBefore l.network.arcs (length l.network.nodes) l.node l.hops.items;
}
