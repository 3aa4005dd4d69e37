use Rattle.assignment_search.proofs.Common.{usable_of, AreCeilings}
use Rattle.assignment_search.proofs.ceiling.quick_ceiling_of.Given as goal

abbrev pub invariant-loop-vehicle : goal.invariant-loop-vehicle
invariant-loop-vehicle l = AreCeilings l.graph (usable_of l.allowed) l.rooms
