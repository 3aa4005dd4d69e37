use Rattle.std.proofs.Common.{take}
use Rattle.route_drive.proofs.Common.{IsInTime, left_commands, Adds, All}
use Rattle.route_drive.proofs.rounds.last_round.Given as goal

abbrev pub invariant-loop-k : goal.invariant-loop-k
invariant-loop-k l = record {
  entered : Adds 0 (left_commands (take l.k l.vehicles) (take l.k l.courses)) l.initial.round l.round;
  in_time : All IsInTime (left_commands (take l.k l.vehicles) (take l.k l.courses));
}
