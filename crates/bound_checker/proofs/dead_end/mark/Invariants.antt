use Rattle.std.proofs.Common.{take}
use Rattle.bound_checker.proofs.Common.{IsMarking}
use Rattle.bound_checker.proofs.dead_end.mark.Given as goal

abbrev pub invariant-loop-rider : goal.invariant-loop-rider
invariant-loop-rider l = IsMarking l.initial.marks l.marks (take l.rider-index l.riders)
