use Rattle.std.proofs.Common.{◌≡◌, take}
use Rattle.stop_orders.proofs.task.route.copy_of_stops.Given as goal

abbrev pub invariant-loop-stop : goal.invariant-loop-stop
invariant-loop-stop l = l.copy.items ≡ take l.stop-index l.stops
