use Rattle.bound_checker.proofs.Common.{usable_of, AreSoleRows}
use Rattle.bound_checker.proofs.dead_end.sole_rows.Given as goal

abbrev pub invariant-loop-vehicle : goal.invariant-loop-vehicle
invariant-loop-vehicle l = AreSoleRows l.graph (usable_of l.allowed) l.vehicle l.sole.items
