use Rattle.std.proofs.Common.{◌≡◌, ℕ, ◌-◌, ◌<◌, length, slice_index, slice_index_or}
use Rattle.travel_times.proofs.labels.rank.keys_of.Given as goal

abbrev pub invariant-loop-node : goal.invariant-loop-node
invariant-loop-node l = record {
  each : length l.keys.items ≡ l.node;
  keys : (node : ℕ) → node < l.node → slice_index_or l.keys.items node (0, 0) ≡ (1000000 - slice_index l.degrees node, node);
}
