use Rattle.std.proofs.Common.{arith}
use Rattle.plan_rules.proofs.Common.{ints, rider_term}
use Rattle.plan_rules.proofs.lemmas.SumLemmas.{int_sum_more}
use Rattle.plan_rules.proofs.value.rider_terms.Goals as goal

pub loop-rider-preserved : goal.loop-rider-preserved
loop-rider-preserved c =
    let more = int_sum_more c.loop-rider.rider (rider_term c.args.graph.now c.args.multipliers.now) in
    record {
      value = omega (arith, ints, more, c.rider_part-total.ensures.value);
      small = record { low = omega (arith, ints); high = omega (arith, ints) };
    }
