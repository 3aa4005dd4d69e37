use Rattle.std.proofs.Common.{◌≡◌, max, map, drop}
use Rattle.dispatch_engine.proofs.Common.{greatest}
use Rattle.dispatch_engine.proofs.limits.settling.most_seats.Given as goal

abbrev pub invariant-loop-vehicle : goal.invariant-loop-vehicle
invariant-loop-vehicle l = max l.most (greatest (map (λ v. v.seats) (drop l.vehicle-index l.vehicles))) ≡ greatest (map (λ v. v.seats) l.vehicles)
