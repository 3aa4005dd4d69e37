use Rattle.std.proofs.Common.{arith}
use Rattle.bound_checker.proofs.Common.{ints, rider_term, int_sum_more}
use Rattle.bound_checker.proofs.leaf.sum_of_riders.Goals as goal

pub loop-rider-preserved : goal.loop-rider-preserved
loop-rider-preserved c =
    let more = int_sum_more c.loop-rider.rider (rider_term c.args.graph.now c.args.multipliers.now) in
    record {
      value = omega (arith, ints, more, c.least_of_rider-sum.ensures.value);
      small = record { low = omega (arith, ints); high = omega (arith, ints) };
    }
