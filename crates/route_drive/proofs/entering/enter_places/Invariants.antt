use Rattle.std.proofs.Common.{take}
use Rattle.route_drive.proofs.Common.{IsInTime, told_by, Adds, All}
use Rattle.route_drive.proofs.entering.enter_places.Given as goal

abbrev pub invariant-loop-k : goal.invariant-loop-k
invariant-loop-k l = record {
  entered : Adds 0 (told_by l.now (take l.k l.vehicles) (take l.k l.courses) (take l.k l.places)) l.initial.round l.round;
  in_time : All IsInTime (told_by l.now (take l.k l.vehicles) (take l.k l.courses) (take l.k l.places));
}
