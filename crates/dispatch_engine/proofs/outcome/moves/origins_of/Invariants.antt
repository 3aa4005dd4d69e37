use Rattle.std.proofs.Common.{◌≡◌, take}
use Rattle.dispatch_engine.proofs.Common.{origins_of}
use Rattle.dispatch_engine.proofs.outcome.moves.origins_of.Given as goal

abbrev pub invariant-loop-rider : goal.invariant-loop-rider
invariant-loop-rider l = l.origins.items ≡ origins_of l.settled (take l.rider-index l.riders)
