use Rattle.std.proofs.Common.{◌≡◌, ◌+◌, drop, ltb}
use Rattle.route_drive.proofs.Common.{WalkStep, list_any}
use Rattle.route_drive.proofs.places.has_later.Given as goal

abbrev pub invariant-loop-step : goal.invariant-loop-step
invariant-loop-step l = list_any (λ (s : WalkStep). ltb l.now (l.free + s.seconds)) l.steps ≡ list_any (λ (s : WalkStep). ltb l.now (l.free + s.seconds))
    (drop l.step-index l.steps)
