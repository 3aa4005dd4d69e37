use Rattle.std.proofs.Common.{◌≡◌, take}
use Rattle.route_drive.proofs.Common.{headings_of}
use Rattle.route_drive.proofs.places.headings_of.Given as goal

abbrev pub invariant-loop-k : goal.invariant-loop-k
invariant-loop-k l = l.headings.items ≡ headings_of l.dwell l.now (take l.k l.vehicles) (take l.k l.courses)
