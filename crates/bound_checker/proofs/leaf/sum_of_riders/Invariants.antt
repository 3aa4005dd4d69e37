use Rattle.std.proofs.Common.{◌≡◌}
use Rattle.bound_checker.proofs.Common.{int_sum_below, rider_term, IsSmallSum}
use Rattle.bound_checker.proofs.leaf.sum_of_riders.Given as goal

abbrev pub invariant-loop-rider : goal.invariant-loop-rider
invariant-loop-rider l = record {
  value : l.sum ≡ int_sum_below l.rider (rider_term l.graph l.multipliers);
  small : IsSmallSum l.rider l.sum;
}
