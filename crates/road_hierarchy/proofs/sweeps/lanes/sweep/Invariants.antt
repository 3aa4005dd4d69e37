use Rattle.std.proofs.Common.{◌≡◌, ◌≤◌, ◌<◌, ℕ, All, length, slice_index_or, []}
use Rattle.road_hierarchy.specs.work.sweeps.Lanes.{lane}
use Rattle.road_hierarchy.specs.work.sweeps.Sweep.{HasSwept, far}
use Rattle.road_hierarchy.proofs.sweeps.lanes.sweep.Given as goal

abbrev pub invariant-loop-arc : goal.invariant-loop-arc
invariant-loop-arc l = record {
  same_length : length l.rows ≡ length l.initial.rows;
  blocks : (i : ℕ) → i < length l.rows → length (slice_index_or l.rows i []) ≡ 16;
  swept : (k : ℕ) → k < 16 → HasSwept l.arcs l.arc-index (lane k l.initial.rows) (lane k l.rows);
  low : All (λ block. All (λ cell. cell ≤ far) block) l.rows;
}
