use Rattle.std.proofs.Common.{◌≡◌, map, take}
use Rattle.route_drive.proofs.Common.{left_course}
use Rattle.route_drive.proofs.plan.left_courses.Given as goal

abbrev pub invariant-loop-course : goal.invariant-loop-course
invariant-loop-course l = l.left.items ≡ map (left_course l.seal) (take l.course-index l.courses)
