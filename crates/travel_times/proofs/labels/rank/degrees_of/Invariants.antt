use Rattle.std.proofs.Common.{◌≡◌, ℕ, ◌+◌, ◌<◌, length, slice_index}
use Rattle.travel_times.proofs.Common.{IsNetwork, leaving, reaching_before}
use Rattle.travel_times.proofs.labels.rank.degrees_of.Given as goal

abbrev pub invariant-loop-node : goal.invariant-loop-node
invariant-loop-node l = record {
  network : IsNetwork l.network;
  each : length l.degrees.items ≡ length l.network.nodes;
  counted : (node : ℕ) → node < length l.network.nodes → slice_index l.degrees.items node ≡ length (leaving node l.network.arcs) + reaching_before
      l.network.arcs l.node node;
}
