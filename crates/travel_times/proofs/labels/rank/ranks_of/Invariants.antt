use Rattle.std.proofs.Common.{◌≡◌, ℕ, ◌<◌, length, slice_index}
use Rattle.travel_times.proofs.labels.rank.ranks_of.Given as goal

abbrev pub invariant-loop-place : goal.invariant-loop-place
invariant-loop-place l = record {
  each : length l.rank.items ≡ l.nodes;
  placed : (r : ℕ) → r < l.place → slice_index l.rank.items (slice_index l.order r) ≡ r;
}
