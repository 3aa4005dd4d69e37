use Rattle.std.proofs.Common.{◌≡◌, ◌*◌, ◌≤◌, take}
use Rattle.stop_orders.proofs.Common.{persons}
use Rattle.stop_orders.proofs.validity.persons_of.Given as goal

abbrev pub invariant-loop-leg : goal.invariant-loop-leg
invariant-loop-leg l = (l.persons ≡ persons (take l.leg-index l.legs)) × (l.persons ≤ 6 * l.leg-index)
