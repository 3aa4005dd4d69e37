use Rattle.assignment_search.proofs.Common.{usable_of}
use Rattle.plan_rules.specs.lemmas.DeadEnd.{IsOnlyOf}
use Rattle.assignment_search.proofs.branching.second_row.Given as goal

abbrev pub invariant-loop-row : goal.invariant-loop-row
invariant-loop-row l = IsOnlyOf l.graph (usable_of l.allowed) l.vehicle l.row l.first
