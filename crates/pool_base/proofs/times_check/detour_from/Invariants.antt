use Rattle.std.proofs.Common.{ℕ, ◌<◌}
use Rattle.pool_base.specs.TimesFault.{IsDetourShorter}
use Rattle.pool_base.proofs.times_check.detour_from.Given as goal

abbrev pub invariant-loop-b : goal.invariant-loop-b
invariant-loop-b l = (i k : ℕ) → i < l.b → k < l.points → IsDetourShorter l.points l.cells l.a i k → ⊥
