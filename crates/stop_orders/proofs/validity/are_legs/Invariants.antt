use Rattle.std.proofs.Common.{take, All}
use Rattle.stop_orders.proofs.Common.{IsLeg}
use Rattle.stop_orders.proofs.validity.are_legs.Given as goal

abbrev pub invariant-loop-leg : goal.invariant-loop-leg
invariant-loop-leg l = All (IsLeg l.points) (take l.leg-index l.legs)
