use Rattle.std.proofs.Common.{arith}
use Rattle.plan_rules.proofs.Common.{ints, leaf_value}
use Rattle.plan_rules.proofs.value.leaf_value.Goals as goal

pub returns-clause-value : goal.returns-clause-value
unfolding leaf_value
returns-clause-value c = omega (arith, ints, c.vehicle_terms.ensures.value, c.rider_terms.ensures.value)
