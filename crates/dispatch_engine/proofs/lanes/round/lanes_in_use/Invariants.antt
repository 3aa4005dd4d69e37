use Rattle.std.proofs.Common.{◌≡◌, ◌≤◌, ◌-◌, ℕ, []}
use Rattle.dispatch_engine.proofs.Common.{IsRound, lane_at}
use Rattle.dispatch_engine.proofs.lanes.round.lanes_in_use.Given as goal

abbrev pub invariant-loop-lanes : goal.invariant-loop-lanes
invariant-loop-lanes l = record {
  some : 1 ≤ l.lanes;
  few : l.lanes ≤ 16;
  kept : IsRound l.round;
  rest : (lane : ℕ) → l.lanes ≤ lane → lane_at l.round lane ≡ [];
}

abbrev pub decreases-loop-lanes : goal.decreases-loop-lanes
decreases-loop-lanes l = l.lanes - 1
