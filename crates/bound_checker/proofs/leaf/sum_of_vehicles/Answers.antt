use Rattle.std.proofs.Common.{get_or, None, pos, sym, subst, arith, unwrap_or}
use Rattle.bound_checker.proofs.Common.{ints, IsSmall, int_sum_more}
use Rattle.bound_checker.proofs.LeafLemmas.{small_or}
use Rattle.bound_checker.proofs.leaf.sum_of_vehicles.Goals as goal

pub loop-cost-preserved : goal.loop-cost-preserved
loop-cost-preserved c =
    let more = int_sum_more c.loop-cost.cost-index (λ v. unwrap_or (get_or c.args.least.now v None) (pos 0)) in
    let small : IsSmall c.unwrap_or-sum.result = subst IsSmall (sym c.unwrap_or-sum.ensures)
    (small_or (get_or c.args.least.now c.loop-cost.cost-index None) (c.requires.small c.loop-cost.cost-index)) in
    record {
      value = omega (arith, ints, more, c.unwrap_or-sum.ensures);
      small = record { low = omega (arith, ints, small.low, small.high); high = omega (arith, ints, small.low, small.high) };
    }
