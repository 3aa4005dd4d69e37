use Rattle.std.proofs.Common.{take}
use Rattle.dispatch_engine.proofs.Common.{AreKept}
use Rattle.std.specs.List.{Contains}
use Rattle.dispatch_engine.proofs.limits.kept_riders.keep_promises.Given as goal

abbrev pub invariant-loop-number : goal.invariant-loop-number
invariant-loop-number l = AreKept l.wait l.requests l.plain (Contains (take l.number-index l.held)) l.fn.riders.items l.riders.items
