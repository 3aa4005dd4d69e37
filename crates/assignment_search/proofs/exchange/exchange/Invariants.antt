use Rattle.std.proofs.Common.{◌≤◌}
use Rattle.assignment_search.proofs.Common.{IsLawful, cost_of}
use Rattle.assignment_search.proofs.exchange.exchange.Given as goal

abbrev pub invariant-loop-best : goal.invariant-loop-best
invariant-loop-best l = record {
  lawful : IsLawful l.graph l.best;
  cost : cost_of l.graph l.best ≤ cost_of l.graph l.fn.plan;
}

abbrev pub decreases-loop-best : goal.decreases-loop-best
decreases-loop-best l = cost_of l.graph l.best
