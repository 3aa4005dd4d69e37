use Rattle.std.proofs.Common.{take}
use Rattle.bound_checker.proofs.Common.{IsApart}
use Rattle.bound_checker.proofs.dead_end.share_a_rider.Given as goal

abbrev pub invariant-loop-rider : goal.invariant-loop-rider
invariant-loop-rider l = IsApart (take l.rider-index l.riders) l.others
