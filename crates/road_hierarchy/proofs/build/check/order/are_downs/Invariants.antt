use Rattle.road_hierarchy.proofs.build.Reading.{AreDownsSoFar}
use Rattle.road_hierarchy.proofs.build.check.order.are_downs.Given as goal

abbrev pub invariant-loop-arc : goal.invariant-loop-arc
invariant-loop-arc l = AreDownsSoFar l.nodes l.arc-index l.last l.down
