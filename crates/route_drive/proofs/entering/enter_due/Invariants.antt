use Rattle.std.proofs.Common.{map, take}
use Rattle.route_drive.proofs.Common.{due, stop_command, Adds}
use Rattle.route_drive.proofs.entering.enter_due.Given as goal

abbrev pub invariant-loop-stop : goal.invariant-loop-stop
invariant-loop-stop l = Adds 0 (map (stop_command l.vehicle) (due l.latest (take l.stop-index l.stops))) l.initial.round l.round
