use Rattle.std.proofs.Common.{◌≡◌}
use Rattle.seat_lock.specs.Values.{IsPassOf}
use Rattle.single_calls.proofs.turns.play_all.Given as goal

abbrev pub invariant-loop-amount : goal.invariant-loop-amount
invariant-loop-amount g l = IsPassOf l.lock l.pass × (l.pass.lane ≡ l.initial.pass.lane)
