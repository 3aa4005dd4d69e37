use Rattle.std.proofs.Common.{ℕ, ◌<◌}
use Rattle.pool_base.specs.TimesFault.{IsTooLong}
use Rattle.pool_base.proofs.times_check.first_too_long.Given as goal

abbrev pub invariant-loop-a : goal.invariant-loop-a
invariant-loop-a l = (i k : ℕ) → i < l.a → k < l.points → IsTooLong l.points l.cells i k → ⊥
