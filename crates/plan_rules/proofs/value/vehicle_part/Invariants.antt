use Rattle.std.proofs.Common.{◌≡◌, IfSome}
use Rattle.plan_rules.proofs.Common.{least_below, usable_of, is_usable_by, reduced_cost, IsSmall}
use Rattle.plan_rules.proofs.value.vehicle_part.Given as goal

abbrev pub invariant-loop-row : goal.invariant-loop-row
invariant-loop-row l = record {
  value : l.least ≡ least_below l.row (is_usable_by l.graph (usable_of l.allowed) l.vehicle) (reduced_cost l.graph l.multipliers);
  small : IfSome l.least IsSmall;
}
