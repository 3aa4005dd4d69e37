use Rattle.std.proofs.Common.{◌≡◌, ℕ, ◌<◌, ◌≤◌, [], length, get_or, map}
use Rattle.travel_times.proofs.Common.{IsNetwork, hop_of, leaving}
use Rattle.travel_times.proofs.labels.hops.hops_ahead.Given as goal

abbrev pub invariant-loop-node : goal.invariant-loop-node
invariant-loop-node l = record {
  network : IsNetwork l.network;
  each : length l.hops.items ≡ length l.network.nodes;
  placed : (node : ℕ) → node < l.node → get_or l.hops.items node [] ≡ map hop_of (leaving node l.network.arcs);
  rest : (node : ℕ) → l.node ≤ node → get_or l.hops.items node [] ≡ [];
}
