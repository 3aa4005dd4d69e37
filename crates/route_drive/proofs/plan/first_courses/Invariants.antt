use Rattle.std.proofs.Common.{◌≡◌, map, take}
use Rattle.route_drive.proofs.Common.{at_rest}
use Rattle.route_drive.proofs.plan.first_courses.Given as goal

abbrev pub invariant-loop-vehicle : goal.invariant-loop-vehicle
invariant-loop-vehicle l = l.courses.items ≡ map (λ v. at_rest) (take l._vehicle-index l.vehicles)
