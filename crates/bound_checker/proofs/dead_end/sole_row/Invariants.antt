use Rattle.bound_checker.proofs.Common.{usable_of, IsOnlyOf}
use Rattle.bound_checker.proofs.dead_end.sole_row.Given as goal

abbrev pub invariant-loop-row : goal.invariant-loop-row
invariant-loop-row l = IsOnlyOf l.graph (usable_of l.allowed) l.vehicle l.row l.sole
