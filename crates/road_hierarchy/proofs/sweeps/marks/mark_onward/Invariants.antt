use Rattle.road_hierarchy.specs.work.sweeps.Marks.{HasMarkedOn}
use Rattle.road_hierarchy.proofs.sweeps.marks.mark_onward.Given as goal

abbrev pub invariant-loop-arc : goal.invariant-loop-arc
invariant-loop-arc l = HasMarkedOn l.arcs l.arc-index l.initial.marks l.marks
