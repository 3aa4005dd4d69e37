use Rattle.std.proofs.Common.{◌≡◌}
use Rattle.seat_lock.proofs.Common.{IsSameSeat}
use Rattle.seat_lock.proofs.steps.wait_turn.Given as goal

abbrev pub invariant-loop : goal.invariant-loop
invariant-loop g l = IsSameSeat l.initial.place l.place × (l.place.me ≡ l.initial.place.me)
