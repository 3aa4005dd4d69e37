use Rattle.std.proofs.Common.{◌≡◌, map, take}
use Rattle.route_drive.proofs.Common.{planned_course}
use Rattle.route_drive.proofs.plan.planned_courses.Given as goal

abbrev pub invariant-loop-vehicle : goal.invariant-loop-vehicle
invariant-loop-vehicle l = l.courses.items ≡ map (planned_course l.state.riders l.planned) (take l.vehicle-index l.vehicle-items)
