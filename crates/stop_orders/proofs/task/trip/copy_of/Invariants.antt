use Rattle.std.proofs.Common.{◌≡◌, take}
use Rattle.stop_orders.proofs.task.trip.copy_of.Given as goal

abbrev pub invariant-loop-leg : goal.invariant-loop-leg
invariant-loop-leg l = l.copy.items ≡ take l.leg-index l.legs
