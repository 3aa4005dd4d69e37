use Rattle.std.proofs.Common.{◌++◌, ◌<◌, ℕ, get_or}
use Rattle.road_network.specs.declared.hop.Hop.{Hop}
use Rattle.road_hierarchy.specs.work.build.Checked.{IsKept}
use Rattle.road_hierarchy.proofs.build.check.kept.are_hops_kept.Given as goal

abbrev pub invariant-loop-hop : goal.invariant-loop-hop
invariant-loop-hop l = (k : ℕ) (d : Hop) → k < l.hop-index → IsKept (l.draft.up.items ++ l.draft.down.items) l.draft.turns.items l.start (get_or l.hops k d)
