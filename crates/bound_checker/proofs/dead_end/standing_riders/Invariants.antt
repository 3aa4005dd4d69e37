use Rattle.bound_checker.proofs.Common.{usable_of, MarksStanding}
use Rattle.bound_checker.proofs.dead_end.standing_riders.Given as goal

abbrev pub invariant-loop-row : goal.invariant-loop-row
invariant-loop-row l = MarksStanding l.graph (usable_of l.allowed) l.row l.standing.items
