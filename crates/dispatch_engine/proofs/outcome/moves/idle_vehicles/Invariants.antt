use Rattle.std.proofs.Common.{◌≡◌, filter}
use Rattle.dispatch_engine.proofs.Common.{range_with_len, is_idle}
use Rattle.dispatch_engine.proofs.outcome.moves.idle_vehicles.Given as goal

abbrev pub invariant-loop-vehicle : goal.invariant-loop-vehicle
invariant-loop-vehicle l = l.idle.items ≡ filter (is_idle l.settled l.graph l.chosen) (range_with_len 0 l.vehicle)
