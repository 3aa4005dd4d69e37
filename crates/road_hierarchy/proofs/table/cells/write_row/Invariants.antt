use Rattle.std.proofs.Common.{◌≡◌, ℕ, ◌+◌, ◌<◌, ◌≤◌, ◌⊎◌, length, slice_index}
use Rattle.road_hierarchy.specs.work.sweeps.Lanes.{lane_cell}
use Rattle.road_hierarchy.specs.work.sweeps.Sweep.{closed_cell}
use Rattle.road_hierarchy.proofs.table.cells.write_row.Given as goal

abbrev pub invariant-loop-place : goal.invariant-loop-place
invariant-loop-place l = record {
  size : length l.cells ≡ length l.fn.cells;
  written : (j : ℕ) → j < l.place → slice_index l.cells (l.at + j) ≡ closed_cell (lane_cell l.rows (slice_index l.turned j) l.lane);
  others : (k : ℕ) → (k < l.at) ⊎ (l.at + l.place ≤ k) → slice_index l.cells k ≡ slice_index l.fn.cells k;
}
