use Rattle.std.proofs.Common.{ℕ, ◌<◌}
use Rattle.pool_base.specs.TimesFault.{IsDetourShorter}
use Rattle.pool_base.proofs.times_check.first_detour.Given as goal

abbrev pub invariant-loop-a : goal.invariant-loop-a
invariant-loop-a l = (i j k : ℕ) → i < l.a → j < l.points → k < l.points → IsDetourShorter l.points l.cells i j k → ⊥
