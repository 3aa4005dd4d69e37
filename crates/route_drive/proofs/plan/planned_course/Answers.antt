use Rattle.std.proofs.Common.{refl}
use Rattle.route_drive.proofs.Common.{look_up}
use Rattle.route_drive.proofs.plan.planned_course.Goals as goal

pub returns : goal.returns
unfolding look_up
returns c = rw (c.planned_stops.ensures, c.planned_target.ensures) refl
