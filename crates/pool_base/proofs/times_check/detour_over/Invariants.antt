use Rattle.std.proofs.Common.{ℕ, ◌<◌}
use Rattle.pool_base.specs.TimesFault.{IsDetourShorter}
use Rattle.pool_base.proofs.times_check.detour_over.Given as goal

abbrev pub invariant-loop-c : goal.invariant-loop-c
invariant-loop-c l = (k : ℕ) → k < l.c → IsDetourShorter l.points l.cells l.a l.b k → ⊥
