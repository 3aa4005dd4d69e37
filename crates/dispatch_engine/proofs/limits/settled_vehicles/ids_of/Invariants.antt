use Rattle.std.proofs.Common.{◌≡◌, map, take}
use Rattle.dispatch_engine.proofs.limits.settled_vehicles.ids_of.Given as goal

abbrev pub invariant-loop-passenger : goal.invariant-loop-passenger
invariant-loop-passenger l = l.ids.items ≡ map (λ p. p.rider) (take l.passenger-index l.passengers)
