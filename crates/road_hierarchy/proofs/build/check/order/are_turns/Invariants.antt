use Rattle.std.proofs.Common.{◌≡◌, ◌<◌, ℕ, length, slice_index}
use Rattle.road_hierarchy.proofs.build.check.order.are_turns.Given as goal

abbrev pub invariant-loop-node : goal.invariant-loop-node
invariant-loop-node l = (k : ℕ) → k < l.node → (slice_index l.turns k < length l.nodes) × (slice_index l.nodes (slice_index l.turns k) ≡ k)
