use Rattle.std.proofs.Common.{ℕ, ◌<◌}
use Rattle.pool_base.specs.TimesFault.{IsOffZero}
use Rattle.pool_base.proofs.times_check.first_off_zero.Given as goal

abbrev pub invariant-loop-a : goal.invariant-loop-a
invariant-loop-a l = (k : ℕ) → k < l.a → IsOffZero l.points l.cells k → ⊥
