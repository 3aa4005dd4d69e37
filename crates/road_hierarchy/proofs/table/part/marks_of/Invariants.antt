use Rattle.std.proofs.Common.{◌≡◌, ◌<◌, ℕ, length, true, slice_index_or}
use Rattle.road_hierarchy.specs.work.sweeps.Marks.{is_marked}
use Rattle.road_hierarchy.proofs.table.part.marks_of.Given as goal

abbrev pub invariant-loop-turn : goal.invariant-loop-turn
invariant-loop-turn l = record {
  size : length l.marks.items ≡ l.nodes;
  marked : (k d : ℕ) → k < l.turn-index → is_marked l.marks.items (slice_index_or l.turned k d) ≡ true;
}
