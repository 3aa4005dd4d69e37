use Rattle.std.proofs.Common.{◌≡◌, ℕ, ◌<◌, true, get_or}
use Rattle.dispatch_engine.proofs.Common.{LaneWork}
use Rattle.dispatch_engine.proofs.lanes.crew.are_done.Given as goal

abbrev pub invariant-loop-lane : goal.invariant-loop-lane
invariant-loop-lane l = (k : ℕ) (d : LaneWork) → k < l.lane-index → (get_or l.crew k d).done ≡ true
