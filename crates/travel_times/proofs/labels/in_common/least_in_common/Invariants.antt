use Rattle.std.proofs.Common.{◌+◌, ◌-◌, length}
use Rattle.travel_times.proofs.labels.Merging.{IsMerging}
use Rattle.travel_times.proofs.labels.in_common.least_in_common.Given as goal

abbrev pub invariant-loop-i : goal.invariant-loop-i
invariant-loop-i l = IsMerging l.forward l.backward l.i l.j l.best

abbrev pub decreases-loop-i : goal.decreases-loop-i
decreases-loop-i l = (length l.forward - l.i) + (length l.backward - l.j)
