use Rattle.std.proofs.Common.{◌≡◌, ◌+◌, drop, ltb}
use Rattle.route_drive.proofs.Common.{WalkStep, list_any, reached_by}
use Rattle.route_drive.proofs.places.reached_by.Given as goal

abbrev pub invariant-loop-step : goal.invariant-loop-step
invariant-loop-step l = record {
  same : reached_by l.now l.at.free l.at.node l.steps ≡ reached_by l.now l.at.free l.node (drop l.step-index l.steps);
  later : l.is_under_way ≡ list_any (λ (s : WalkStep). ltb l.now (l.at.free + s.seconds)) (drop l.step-index l.steps);
}
