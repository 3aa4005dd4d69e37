use Rattle.std.proofs.Common.{◌≡◌, take, map}
use Rattle.dispatch_engine.proofs.Common.{rider_id}
use Rattle.dispatch_engine.proofs.outcome.lines.ids_of.Given as goal

abbrev pub invariant-loop-rider : goal.invariant-loop-rider
invariant-loop-rider l = l.ids.items ≡ map (rider_id l.settled) (take l.rider-index l.riders)
