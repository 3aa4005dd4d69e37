use Rattle.std.proofs.Common.{◌≡◌, take}
use Rattle.dispatch_engine.proofs.Common.{kept_legs}
use Rattle.dispatch_engine.proofs.limits.kept_riders.legs_as_promised.Given as goal

abbrev pub invariant-loop-number : goal.invariant-loop-number
invariant-loop-number l = l.legs.items ≡ kept_legs l.wait l.requests l.riders (take l.number-index l.trip)
