use Rattle.std.proofs.Common.{◌≡◌, ℕ, ◌+◌, ◌<◌, ◌≤◌, ◌⊎◌, length, slice_index}
use Rattle.travel_times.proofs.table.rows.write_row.Given as goal

abbrev pub invariant-loop-place : goal.invariant-loop-place
invariant-loop-place l = record {
  size : length l.cells ≡ length l.fn.cells;
  written : (j : ℕ) → j < l.place → slice_index l.cells (l.at + j) ≡ slice_index l.seconds (slice_index l.points j);
  others : (k : ℕ) → (k < l.at) ⊎ (l.at + l.place ≤ k) → slice_index l.cells k ≡ slice_index l.fn.cells k;
}
