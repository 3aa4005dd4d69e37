use Rattle.std.proofs.Common.{◌≡◌, IfSome, pos}
use Rattle.assignment_search.proofs.Common.{least_below, cost_at, usable_of, is_usable_by, IsCost}
use Rattle.assignment_search.proofs.cheapest.least_cost_of.Given as goal

abbrev pub invariant-loop-row : goal.invariant-loop-row
invariant-loop-row l = record {
  value : l.least ≡ least_below l.row (is_usable_by l.graph (usable_of l.allowed) l.vehicle) (λ k. pos (cost_at l.graph k));
  cost : IfSome l.least IsCost;
}
