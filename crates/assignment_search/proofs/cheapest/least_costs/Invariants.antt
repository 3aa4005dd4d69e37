use Rattle.std.proofs.Common.{◌≡◌, ℕ, ◌<◌, vec_len, get_or, pos}
use Rattle.assignment_search.proofs.Common.{usable_of, least_cost, IsCost}
use Rattle.assignment_search.proofs.cheapest.least_costs.Given as goal

abbrev pub invariant-loop-vehicle : goal.invariant-loop-vehicle
invariant-loop-vehicle l = record {
  len : vec_len l.costs ≡ l.vehicle;
  value : (v : ℕ) → v < l.vehicle → get_or l.costs.items v (pos 0) ≡ least_cost l.graph (usable_of l.allowed) v;
  cost : (v : ℕ) → v < l.vehicle → IsCost (get_or l.costs.items v (pos 0));
}
