use Rattle.std.proofs.Common.{ℕ, ◌<◌, []}
use Rattle.dispatch_engine.proofs.Common.{IsRest, progress_at, lane_at}
use Rattle.dispatch_engine.proofs.lanes.progress.are_done.Given as goal

abbrev pub invariant-loop-lane : goal.invariant-loop-lane
invariant-loop-lane l = (k : ℕ) → k < l.lane → IsRest (lane_at l.round k) (progress_at l.lanes k) []
