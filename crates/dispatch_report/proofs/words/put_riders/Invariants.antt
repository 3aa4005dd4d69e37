use Rattle.std.proofs.Common.{◌≡◌, ◌++◌, take}
use Rattle.dispatch_report.proofs.Common.{spaced}
use Rattle.std.specs.List.{flat_map}
use Rattle.dispatch_report.proofs.words.put_riders.Given as goal

abbrev pub invariant-loop-rider : goal.invariant-loop-rider
invariant-loop-rider l = l.line.items ≡ l.initial.line.items ++ flat_map spaced (take l.rider-index l.riders)
