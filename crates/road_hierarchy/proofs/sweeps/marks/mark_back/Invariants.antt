use Rattle.std.proofs.Common.{◌-◌, length}
use Rattle.road_hierarchy.specs.work.sweeps.Marks.{HasMarkedBack}
use Rattle.road_hierarchy.proofs.sweeps.marks.mark_back.Given as goal

abbrev pub invariant-loop-done : goal.invariant-loop-done
invariant-loop-done l = HasMarkedBack l.arcs (length l.arcs - l.done) l.initial.marks l.marks
