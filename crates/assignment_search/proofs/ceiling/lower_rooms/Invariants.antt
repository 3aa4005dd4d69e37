use Rattle.assignment_search.proofs.Common.{usable_of, AreCeilings}
use Rattle.assignment_search.proofs.ceiling.lower_rooms.Given as goal

abbrev pub invariant-loop-row : goal.invariant-loop-row
invariant-loop-row l = AreCeilings l.graph (usable_of l.allowed) l.rooms
