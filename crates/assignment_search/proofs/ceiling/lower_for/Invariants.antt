use Rattle.assignment_search.proofs.Common.{usable_of, AreCeilings}
use Rattle.assignment_search.proofs.ceiling.lower_for.Given as goal

abbrev pub invariant-loop-rider : goal.invariant-loop-rider
invariant-loop-rider l = AreCeilings l.graph (usable_of l.allowed) l.rooms
