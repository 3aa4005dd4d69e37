use Rattle.road_hierarchy.proofs.build.Reading.{AreUpsSoFar}
use Rattle.road_hierarchy.proofs.build.check.order.are_ups.Given as goal

abbrev pub invariant-loop-arc : goal.invariant-loop-arc
invariant-loop-arc l = AreUpsSoFar l.nodes l.arc-index l.last l.up
