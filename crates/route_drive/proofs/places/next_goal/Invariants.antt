use Rattle.std.proofs.Common.{◌≡◌, drop}
use Rattle.route_drive.proofs.Common.{to_come}
use Rattle.route_drive.proofs.places.next_goal.Given as goal

abbrev pub invariant-loop-stop : goal.invariant-loop-stop
invariant-loop-stop l = to_come l.now l.stop-items ≡ to_come l.now (drop l.stop-index l.stop-items)
