use Rattle.std.proofs.Common.{arith}
use Rattle.stop_orders.proofs.Common.{both_ways}
use Rattle.stop_orders.proofs.PairLemmas.{before_up_to, not_before_from}
use Rattle.stop_orders.proofs.pair_list.first_not_before.Goals as goal

pub loop-low-preserved-then-is_before : goal.loop-low-preserved-then-is_before
loop-low-preserved-then-is_before c =
    let s = c.loop-low.invariant in let m = c.middle_of-middle.result in let at = c.middle_of-middle.ensures in
    record {
      start_low = omega (arith, s.start_low, at.from);
      low_high = omega (arith, at.below);
      within = s.within;
      before = λ k h. before_up_to c.args.pairs.now c.requires m k (c.args.a, c.args.b) (omega (arith, s.within, at.below))
          (c.is_before.ensures.0 c.if-is_before.true) h;
      after = s.after;
    }

pub loop-low-preserved : goal.loop-low-preserved
loop-low-preserved c =
    let s = c.loop-low.invariant in let m = c.middle_of-middle.result in let at = c.middle_of-middle.ensures in
    record {
      start_low = s.start_low;
      low_high = at.from;
      within = omega (arith, s.within, at.below);
      before = s.before;
      after = λ k h b. not_before_from c.args.pairs.now c.requires m k (c.args.a, c.args.b) (λ is. both_ways _ c.if-is_before.false (c.is_before.ensures.1 is))
          h b;
    }
