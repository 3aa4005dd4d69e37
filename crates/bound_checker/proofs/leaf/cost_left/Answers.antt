use Rattle.std.proofs.Common.{◌≡◌, ◌+◌, ◌<◌, length, get_or, drop, pos, ◌+ℤ◌, arith, rules, SFits, w64}
use Rattle.bound_checker.proofs.Common.{ints, at_drop_more, multiplier_at, multiplier_sum}
use Rattle.bound_checker.proofs.leaf.cost_left.Goals as goal

pub loop-rider-preserved : goal.loop-rider-preserved
loop-rider-preserved c =
    let ms = c.args.multipliers.now in
    let xs = c.as_slice-rider-items.result.now in
    let i = c.loop-rider.rider-index in
    let fits : SFits w64 (get_or ms (get_or xs i 0) (pos 0)) = search rules in
    let low : i < length xs = omega arith in
    let more : multiplier_sum ms (drop i xs) ≡ multiplier_at ms (get_or xs i 0) +ℤ multiplier_sum ms (drop (i + 1) xs) =
    at_drop_more (multiplier_sum ms) xs i 0 low in
    record { value = omega (arith, ints, more, fits, c.loop-rider.invariant.value); low = omega (arith, ints, fits); high = omega (arith, ints, fits) }
