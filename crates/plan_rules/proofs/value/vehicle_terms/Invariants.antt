use Rattle.std.proofs.Common.{◌≡◌}
use Rattle.plan_rules.proofs.Common.{int_sum_below, usable_of, vehicle_term, IsSmallSum}
use Rattle.plan_rules.proofs.value.vehicle_terms.Given as goal

abbrev pub invariant-loop-vehicle : goal.invariant-loop-vehicle
invariant-loop-vehicle l = record {
  value : l.total ≡ int_sum_below l.vehicle (vehicle_term l.graph (usable_of l.allowed) l.multipliers);
  small : IsSmallSum l.vehicle l.total;
}
