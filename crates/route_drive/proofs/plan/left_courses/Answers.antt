use Rattle.std.proofs.Common.{◌<◌, length, refl, arith}
use Rattle.route_drive.proofs.Common.{left_course, map_more}
use Rattle.route_drive.proofs.plan.left_courses.Goals as goal

pub loop-course-preserved : goal.loop-course-preserved
loop-course-preserved c =
    let within : c.loop-course.course-index < length c.args.courses.now = omega arith in
    rw (
      c.in_ok-push.ensures.items,
      c.loop-course.invariant,
      map_more (left_course c.args.seal.now) c.args.courses.now c.loop-course.course-index
          c.course-item.result within,
      ← c.course-item.is,
      c.left_course.ensures,
    ) refl
