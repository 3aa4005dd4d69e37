use Rattle.std.proofs.Common.{◌≡◌, ◌++◌, length}
use Rattle.road_hierarchy.specs.work.build.Labels.{AreLabels}
use Rattle.road_hierarchy.proofs.build.check.past.is_passed.Given as goal

abbrev pub invariant-loop-steps : goal.invariant-loop-steps
invariant-loop-steps l = record {
  same_length : length l.search.labels.items ≡ length l.fn.search.labels.items;
  labels : AreLabels (l.draft.up.items ++ l.draft.down.items) l.first.to l.first.from l.search.current l.search.labels.items;
}
