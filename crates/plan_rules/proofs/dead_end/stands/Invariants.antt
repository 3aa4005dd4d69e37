use Rattle.plan_rules.proofs.Common.{usable_of, StandsInNone}
use Rattle.plan_rules.proofs.dead_end.stands.Given as goal

abbrev pub invariant-loop-row : goal.invariant-loop-row
invariant-loop-row l = StandsInNone l.graph (usable_of l.allowed) l.row l.rider
