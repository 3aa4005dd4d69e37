use Rattle.std.proofs.Common.{◌≡◌, map, take}
use Rattle.road_hierarchy.specs.work.build.Turns.{turn_of}
use Rattle.road_hierarchy.proofs.table.part.turns_of.Given as goal

abbrev pub invariant-loop-point : goal.invariant-loop-point
invariant-loop-point l = l.turned.items ≡ map (turn_of l.turns) (take l.point-index l.points)
