use Rattle.std.proofs.Common.{◌++◌, ◌<◌, ℕ, Contains, get_or}
use Rattle.road_network.specs.declared.arc.Arc.{Arc}
use Rattle.road_hierarchy.proofs.build.check.listed.are_each_listed.Given as goal

abbrev pub invariant-loop-arc : goal.invariant-loop-arc
invariant-loop-arc l = (k : ℕ) (d : Arc) → k < l.arc-index → Contains (l.draft.up.items ++ l.draft.down.items) (get_or l.arcs k d)
