use Rattle.std.proofs.Common.{◌≡◌, ℕ, ◌<◌, length, slice_index}
use Rattle.travel_times.proofs.Common.{IsNetwork, leaving}
use Rattle.travel_times.proofs.labels.rank.leaving_counts.Given as goal

abbrev pub invariant-loop-node : goal.invariant-loop-node
invariant-loop-node l = record {
  network : IsNetwork l.network;
  each : length l.counts.items ≡ l.node;
  counted : (node : ℕ) → node < l.node → slice_index l.counts.items node ≡ length (leaving node l.network.arcs);
}
