use Rattle.std.proofs.Common.{◌<◌, length, refl, arith}
use Rattle.route_drive.proofs.Common.{map_more, planned_course}
use Rattle.route_drive.proofs.plan.planned_courses.Goals as goal

pub loop-vehicle-preserved : goal.loop-vehicle-preserved
loop-vehicle-preserved c =
    let vehicles = c.as_slice-vehicle-items.result.now in
    let within : c.loop-vehicle.vehicle-index < length c.as_slice-vehicle-items.result.now = omega arith in
    rw (
      c.in_ok-push.ensures.items,
      c.loop-vehicle.invariant,
      map_more (planned_course c.args.state.now.riders c.args.planned.now) vehicles
          c.loop-vehicle.vehicle-index c.vehicle-item.result within,
      ← c.vehicle-item.is,
      c.planned_course.ensures,
      c.as_slice.ensures,
    ) refl
