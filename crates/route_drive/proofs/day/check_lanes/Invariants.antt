use Rattle.std.proofs.Common.{◌≡◌, None}
use Rattle.route_drive.proofs.Common.{first_fault, lane_fault}
use Rattle.route_drive.proofs.day.check_lanes.Given as goal

abbrev pub invariant-loop-lane : goal.invariant-loop-lane
invariant-loop-lane l = first_fault (lane_fault l.round) l.lane ≡ None
