use Rattle.std.proofs.Common.{◌≡◌, take, List, ℕ}
use Rattle.route_drive.proofs.Common.{AllZip, greatest, IsDelayed}
use Rattle.route_drive.proofs.counts.worst_delay.Given as goal

abbrev pub invariant-loop-served : goal.invariant-loop-served
invariant-loop-served l = (delays : List ℕ) × AllZip (IsDelayed l.arcs.network.now l.book.state.riders) (take l.served-index l.dropped) delays ×
    (l.worst ≡ greatest delays)
