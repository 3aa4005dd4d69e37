use Rattle.std.proofs.Common.{◌≡◌, ◌++◌, ◌<◌, ◌≤◌, ℕ, All, length, get_or}
use Rattle.road_network.specs.declared.arc.Arc.{Arc}
use Rattle.road_hierarchy.specs.work.build.Checked.{IsPassed}
use Rattle.road_hierarchy.proofs.build.check.past.are_each_passed.Given as goal

abbrev pub invariant-loop-first : goal.invariant-loop-first
invariant-loop-first l = record {
  same_length : length l.search.labels.items ≡ length l.draft.turns.items;
  none_later : All (λ label. label.search ≤ l.search.current) l.search.labels.items;
  passed : (k : ℕ) (d : Arc) → k < l.first-index → IsPassed (l.draft.up.items ++ l.draft.down.items) l.draft.up.items (get_or l.downs k d);
}
