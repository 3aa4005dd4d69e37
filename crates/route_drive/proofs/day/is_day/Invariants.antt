use Rattle.std.proofs.Common.{◌≡◌, take, None}
use Rattle.route_drive.proofs.Common.{first_fault, latest_seal, fault_at}
use Rattle.route_drive.proofs.day.is_day.Given as goal

abbrev pub invariant-loop-round : goal.invariant-loop-round
invariant-loop-round l = record {
  none : first_fault (fault_at l.round-items) l.round-index ≡ None;
  latest : l.latest ≡ latest_seal (take l.round-index l.round-items);
}
