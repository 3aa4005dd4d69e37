use Rattle.std.proofs.Common.{◌<◌, length, get_or, pos, arith, rules, SFits, to_z, w64}
use Rattle.assignment_search.proofs.Common.{ints, multiplier_sum, sum_more}
use Rattle.assignment_search.proofs.first_fit_pass.sum_of_modest.Goals as goal

pub loop-rider-preserved : goal.loop-rider-preserved
loop-rider-preserved c =
    let ms = c.args.multipliers.now in
    let xs = c.args.riders.now in
    let i = c.loop-rider.rider-index in
    let fits : SFits w64 (get_or ms (get_or xs i 0) (pos 0)) = search rules in
    let low : i < length xs = omega arith in
    let modest = c.requires.modest (get_or xs i 0) in
    let more = sum_more ms xs i (to_z w64 c.loop-rider.sum-bits) (multiplier_sum ms xs) low c.loop-rider.invariant.value in
    record {
      value = omega (arith, ints, more, fits, modest.low, modest.high);
      low = omega (arith, ints, fits, modest.low, modest.high);
      high =
          omega (arith, ints, fits, modest.low, modest.high);
    }
