use Rattle.std.proofs.Common.{◌<◌, ℕ, get_or}
use Rattle.road_network.specs.declared.arc.Arc.{Arc}
use Rattle.road_hierarchy.specs.work.build.Checked.{IsBacked, given_arcs}
use Rattle.road_hierarchy.proofs.build.check.backed.are_backed.Given as goal

abbrev pub invariant-loop-place : goal.invariant-loop-place
invariant-loop-place l = (k : ℕ) (d : Arc) → k < l.place
    → IsBacked (given_arcs l.network l.draft.turns.items) l.draft.up.items l.draft.down.items (get_or l.arcs k d)
