use Rattle.std.proofs.Common.{◌≡◌, ℕ, ◌<◌, ◌≤◌, ◌++◌, length}
use Rattle.route_drive.proofs.Common.{lane_at}
use Rattle.route_drive.proofs.rounds.copy_lanes.Given as goal

abbrev pub invariant-loop-lane : goal.invariant-loop-lane
invariant-loop-lane l = record {
  size : length l.driven.lanes ≡ 16;
  copied : (k : ℕ) → k < l.lane → lane_at l.driven k ≡ lane_at l.initial.driven k ++ lane_at l.round k;
  ahead : (k : ℕ) → l.lane ≤ k → lane_at l.driven k ≡ lane_at l.initial.driven k;
}
