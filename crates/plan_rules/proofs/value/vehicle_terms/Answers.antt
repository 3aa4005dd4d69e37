use Rattle.std.proofs.Common.{arith}
use Rattle.plan_rules.proofs.Common.{ints, usable_of, vehicle_term}
use Rattle.plan_rules.proofs.lemmas.SumLemmas.{int_sum_more}
use Rattle.plan_rules.proofs.value.vehicle_terms.Goals as goal

pub loop-vehicle-preserved : goal.loop-vehicle-preserved
loop-vehicle-preserved c =
    let more = int_sum_more c.loop-vehicle.vehicle (vehicle_term c.args.graph.now (usable_of c.args.allowed.now) c.args.multipliers.now) in
    record {
      value = omega (arith, ints, more, c.vehicle_part-total.ensures.value);
      small = record { low = omega (arith, ints); high = omega (arith, ints) };
    }
