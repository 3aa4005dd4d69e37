use Rattle.std.proofs.Common.{◌≡◌, ◌++◌, length}
use Rattle.road_hierarchy.specs.work.build.Labels.{AreLabels}
use Rattle.road_hierarchy.proofs.build.check.search.Search.settle.Given as goal

abbrev pub invariant-loop : goal.invariant-loop
invariant-loop l = record {
  same_length : length l.self.labels.items ≡ length l.fn.self.labels.items;
  labels : AreLabels (l.draft.up.items ++ l.draft.down.items) l.first.to l.first.from l.self.current l.self.labels.items;
}
