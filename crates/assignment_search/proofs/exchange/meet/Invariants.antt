use Rattle.assignment_search.proofs.exchange.meet.Given as goal

abbrev pub invariant-loop-rider : goal.invariant-loop-rider
invariant-loop-rider l = Unit {0}
