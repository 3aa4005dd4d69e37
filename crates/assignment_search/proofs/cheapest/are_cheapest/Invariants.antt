use Rattle.std.proofs.Common.{ℕ, ◌<◌}
use Rattle.assignment_search.proofs.Common.{IsNoCheaper}
use Rattle.assignment_search.proofs.cheapest.are_cheapest.Given as goal

abbrev pub invariant-loop-row : goal.invariant-loop-row
invariant-loop-row l = (k : ℕ) → k < l.row → IsNoCheaper l.graph l.listed k
