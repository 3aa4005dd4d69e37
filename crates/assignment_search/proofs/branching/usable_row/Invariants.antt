use Rattle.std.proofs.Common.{ℕ, ◌<◌}
use Rattle.assignment_search.proofs.Common.{usable_of, MayUse}
use Rattle.assignment_search.proofs.branching.usable_row.Given as goal

abbrev pub invariant-loop-row : goal.invariant-loop-row
invariant-loop-row l = (k : ℕ) → k < l.row → MayUse l.graph (usable_of l.allowed) l.vehicle k → ⊥
