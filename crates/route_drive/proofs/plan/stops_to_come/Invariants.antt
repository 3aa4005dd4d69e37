use Rattle.std.proofs.Common.{◌≡◌, ◌≤◌, length, take}
use Rattle.route_drive.proofs.Common.{to_come}
use Rattle.route_drive.proofs.plan.stops_to_come.Given as goal

abbrev pub invariant-loop-stop : goal.invariant-loop-stop
invariant-loop-stop l = record {
  left : l.left.items ≡ to_come l.now (take l.stop-index l.stop-items);
  few : length l.left.items ≤ l.stop-index;
}
