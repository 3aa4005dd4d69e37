use Rattle.std.proofs.Common.{length, ap, arith, length-take}
use Rattle.route_drive.proofs.plan.copied_stops.Goals as goal

pub push-requires : goal.push-requires
push-requires c = omega (
  arith,
  ap length c.loop-stop.invariant,
  length-take c.loop-stop.stop-index c.as_slice-stop-items.result.now,
  c.as_slice-stop-items.ensures.fits,
)
