use Rattle.std.proofs.Common.{length, ap, arith, length-take}
use Rattle.request_book.proofs.values.vehicle.copied_passengers.Goals as goal

pub push-requires : goal.push-requires
push-requires c =
    omega (
      arith,
      ap length c.loop-passenger.invariant,
      length-take c.loop-passenger.passenger-index c.as_slice-passenger-items.result.now,
      c.as_slice-passenger-items.ensures.fits,
    )
