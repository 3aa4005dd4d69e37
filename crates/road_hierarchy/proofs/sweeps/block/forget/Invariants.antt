use Rattle.std.proofs.Common.{◌≡◌, ◌<◌, ℕ, List, All, length, slice_index_or}
use Rattle.road_hierarchy.specs.work.sweeps.Sweep.{far}
use Rattle.road_hierarchy.proofs.sweeps.block.forget.Given as goal

abbrev pub invariant-loop-node : goal.invariant-loop-node
invariant-loop-node l = record {
  same_length : length l.rows ≡ length l.initial.rows;
  done : (i : ℕ) (d : List ℕ) → i < l.node → All (λ cell. cell ≡ far) (slice_index_or l.rows i d);
}
