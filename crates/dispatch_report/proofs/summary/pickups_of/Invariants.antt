use Rattle.std.proofs.Common.{◌≡◌, ◌≤◌, ◌*◌, take, sum_by}
use Rattle.dispatch_report.specs.work.Named.{pickups}
use Rattle.dispatch_report.proofs.summary.pickups_of.Given as goal

abbrev pub invariant-loop-trip : goal.invariant-loop-trip
invariant-loop-trip l = (l.riders ≡ sum_by pickups (take l.trip-index l.trips)) × (l.riders ≤ 22 * l.trip-index)
