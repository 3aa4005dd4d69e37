use Rattle.std.proofs.Common.{◌<◌, length, refl, arith}
use Rattle.route_drive.proofs.Common.{Vehicle, at_rest, map_more}
use Rattle.route_drive.proofs.plan.first_courses.Goals as goal

pub loop-vehicle-preserved : goal.loop-vehicle-preserved
loop-vehicle-preserved c =
    let within : c.loop-vehicle._vehicle-index < length c.args.vehicles.now = omega arith in
    rw (
      c.in_ok-push.ensures.items,
      c.loop-vehicle.invariant,
      map_more (λ (v : Vehicle). at_rest) c.args.vehicles.now c.loop-vehicle._vehicle-index
          c._vehicle-item.result within,
      c.new.ensures,
    ) refl
