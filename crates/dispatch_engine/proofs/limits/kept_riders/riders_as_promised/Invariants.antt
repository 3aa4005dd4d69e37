use Rattle.std.proofs.Common.{take}
use Rattle.dispatch_engine.proofs.Common.{AreKept, IsHeld}
use Rattle.dispatch_engine.proofs.limits.kept_riders.riders_as_promised.Given as goal

abbrev pub invariant-loop-vehicle : goal.invariant-loop-vehicle
invariant-loop-vehicle l = AreKept l.wait l.requests l.plain (IsHeld (take l.vehicle-index l.vehicles)) l.plain l.riders.items
