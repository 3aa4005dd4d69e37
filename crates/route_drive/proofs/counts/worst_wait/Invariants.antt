use Rattle.std.proofs.Common.{◌≡◌, map, take}
use Rattle.route_drive.proofs.Common.{greatest, waited}
use Rattle.route_drive.proofs.counts.worst_wait.Given as goal

abbrev pub invariant-loop-served : goal.invariant-loop-served
invariant-loop-served l = l.worst ≡ greatest (map (waited l.book.state.riders) (take l.served-index l.picked))
