use Rattle.std.proofs.Common.{◌≡◌, take}
use Rattle.dispatch_engine.proofs.Common.{starts_of}
use Rattle.dispatch_engine.proofs.outcome.moves.starts_of.Given as goal

abbrev pub invariant-loop-vehicle : goal.invariant-loop-vehicle
invariant-loop-vehicle l = l.starts.items ≡ starts_of l.settled (take l.vehicle-index l.vehicles)
