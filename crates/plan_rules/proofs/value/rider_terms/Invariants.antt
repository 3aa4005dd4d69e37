use Rattle.std.proofs.Common.{◌≡◌}
use Rattle.plan_rules.proofs.Common.{int_sum_below, rider_term, IsSmallSum}
use Rattle.plan_rules.proofs.value.rider_terms.Given as goal

abbrev pub invariant-loop-rider : goal.invariant-loop-rider
invariant-loop-rider l = record {
  value : l.total ≡ int_sum_below l.rider (rider_term l.graph l.multipliers);
  small : IsSmallSum l.rider l.total;
}
