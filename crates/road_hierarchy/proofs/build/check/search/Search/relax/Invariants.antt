use Rattle.std.proofs.Common.{◌≡◌, ◌++◌, length}
use Rattle.road_hierarchy.specs.work.build.Labels.{AreLabels, IsLabelled}
use Rattle.road_hierarchy.proofs.build.check.search.Search.relax.Given as goal

abbrev pub invariant-loop-place : goal.invariant-loop-place
invariant-loop-place l = record {
  same_length : length l.self.labels.items ≡ length l.fn.self.labels.items;
  labels : AreLabels (l.draft.up.items ++ l.draft.down.items) l.first.to l.first.from l.self.current l.self.labels.items;
  here : IsLabelled (l.draft.up.items ++ l.draft.down.items) l.first.to l.first.from l.node l.seconds;
}
