use Rattle.std.proofs.Common.{◌≡◌, None, pos, unwrap_or, slice_index_or}
use Rattle.bound_checker.proofs.Common.{IsSmallSum, int_sum_below}
use Rattle.bound_checker.proofs.leaf.sum_of_vehicles.Given as goal

abbrev pub invariant-loop-cost : goal.invariant-loop-cost
invariant-loop-cost l = record {
  value : l.sum ≡ int_sum_below l.cost-index (λ v. unwrap_or (slice_index_or l.least v None) (pos 0));
  small : IsSmallSum l.cost-index l.sum;
}
