use Rattle.std.proofs.Common.{get_or, pos, arith, rules, SFits, w64}
use Rattle.assignment_search.proofs.Common.{ints, int_sum_more}
use Rattle.assignment_search.proofs.ceiling.sum_of.Goals as goal

pub loop-number-preserved : goal.loop-number-preserved
loop-number-preserved c =
    let xs = c.args.numbers.now in
    let i = c.loop-number.number-index in
    let fits : SFits w64 (get_or xs i (pos 0)) = search rules in
    let modest = c.requires.modest i in
    let more = int_sum_more i (λ r. get_or xs r (pos 0)) in
    record {
      value = omega (arith, ints, more, fits, modest.low, modest.high);
      low = omega (arith, ints, fits, modest.low, modest.high);
      high =
          omega (arith, ints, fits, modest.low, modest.high);
    }
