use Rattle.std.proofs.Common.{◌++◌, ◌<◌, ℕ, All, map}
use Rattle.road_network.specs.Roads.{hop_of, leaving}
use Rattle.road_hierarchy.specs.work.build.Checked.{IsKept}
use Rattle.road_hierarchy.specs.work.build.Turns.{turn_of}
use Rattle.road_hierarchy.proofs.build.check.kept.are_kept.Given as goal

abbrev pub invariant-loop-node : goal.invariant-loop-node
invariant-loop-node l = (k : ℕ) → k < l.node
    → All (IsKept (l.draft.up.items ++ l.draft.down.items) l.draft.turns.items (turn_of l.draft.turns.items k)) (map hop_of (leaving k l.network.arcs))
