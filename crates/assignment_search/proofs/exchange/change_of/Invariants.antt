use Rattle.std.proofs.Common.{ℕ, ◌<◌}
use Rattle.assignment_search.proofs.Common.{IsRowOf, BettersNothing}
use Rattle.assignment_search.proofs.exchange.change_of.Given as goal

abbrev pub invariant-loop-row : goal.invariant-loop-row
invariant-loop-row l = (k : ℕ) → k < l.row → IsRowOf l.graph l.vehicle k → BettersNothing l.graph l.chosen l.vehicle k
