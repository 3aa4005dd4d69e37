use Rattle.std.proofs.Common.{ℕ, ◌<◌}
use Rattle.bound_checker.proofs.Common.{ShareARider}
use Rattle.bound_checker.proofs.dead_end.has_clash.Given as goal

abbrev pub invariant-loop-first : goal.invariant-loop-first
invariant-loop-first l = (v w : ℕ) → v < l.first → v < w → ShareARider l.graph l.sole v w → ⊥
