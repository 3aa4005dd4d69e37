use Rattle.std.proofs.Common.{ℕ, ◌<◌}
use Rattle.pool_base.specs.TimesFault.{IsTooLong}
use Rattle.pool_base.proofs.times_check.too_long_in_row.Given as goal

abbrev pub invariant-loop-b : goal.invariant-loop-b
invariant-loop-b l = (k : ℕ) → k < l.b → IsTooLong l.points l.cells l.a k → ⊥
