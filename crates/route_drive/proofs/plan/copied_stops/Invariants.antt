use Rattle.std.proofs.Common.{◌≡◌, take}
use Rattle.route_drive.proofs.plan.copied_stops.Given as goal

abbrev pub invariant-loop-stop : goal.invariant-loop-stop
invariant-loop-stop l = l.copy.items ≡ take l.stop-index l.stop-items
