use Rattle.std.proofs.Common.{map, take}
use Rattle.route_drive.proofs.Common.{IsInTime, stop_command, Adds, All}
use Rattle.route_drive.proofs.rounds.enter_left.Given as goal

abbrev pub invariant-loop-stop : goal.invariant-loop-stop
invariant-loop-stop l = record {
  entered : Adds 0 (map (stop_command l.vehicle) (take l.stop-index l.stops)) l.initial.round l.round;
  in_time : All IsInTime (map (stop_command l.vehicle) (take l.stop-index l.stops));
}
