use Rattle.std.proofs.Common.{ℕ, ◌<◌}
use Rattle.bound_checker.proofs.Common.{ShareARider}
use Rattle.bound_checker.proofs.dead_end.clashes.Given as goal

abbrev pub invariant-loop-second : goal.invariant-loop-second
invariant-loop-second l = (w : ℕ) → l.first < w → w < l.second → ShareARider l.graph l.sole l.first w → ⊥
