use Rattle.std.proofs.Common.{◌≡◌, ℕ, ◌+◌, ◌/◌, ◌%◌, ◌<◌, length, slice_index}
use Rattle.travel_times.proofs.Common.{Roads, IsTimeBetween, AreLabelsOf}
use Rattle.travel_times.proofs.labels.label_ways.write_cells.Given as goal

abbrev pub invariant-loop-place : goal.invariant-loop-place
invariant-loop-place l = record {
  even : length l.labels.backward ≡ length l.labels.forward;
  size : length l.cells ≡ length l.fn.cells;
  times : (roads : Roads) → AreLabelsOf roads l.labels → (k : ℕ) → k < l.place → IsTimeBetween roads.arcs
      (slice_index l.points ((l.start + k) / length l.points)) (slice_index l.points ((l.start + k) % length l.points)) (slice_index l.cells k);
}
