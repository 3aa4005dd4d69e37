use Rattle.std.proofs.Common.{◌≡◌, ◌≤◌, ◌+◌, take}
use Rattle.route_drive.proofs.Common.{longest, due, standing_after, reported_place}
use Rattle.route_drive.proofs.places.standing.Given as goal

abbrev pub invariant-loop-stop : goal.invariant-loop-stop
invariant-loop-stop l = record {
  after : l.at ≡ standing_after l.dwell (reported_place l.vehicle) (due l.now (take l.stop-index l.stops));
  short : l.at.free ≤ longest + l.dwell;
}
