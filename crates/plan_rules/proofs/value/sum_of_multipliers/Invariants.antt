use Rattle.std.proofs.Common.{◌≡◌, ◌*◌, drop, pos, ◌+ℤ◌, neg_ℤ, ◌≤ℤ◌}
use Rattle.plan_rules.proofs.Common.{multiplier_sum}
use Rattle.plan_rules.proofs.value.sum_of_multipliers.Given as goal

abbrev pub invariant-loop-rider : goal.invariant-loop-rider
invariant-loop-rider l = record {
  value : l.sum +ℤ multiplier_sum l.multipliers (drop l.rider-index l.riders) ≡ multiplier_sum l.multipliers l.riders;
  low : neg_ℤ (pos (l.rider-index * 9223372036854775808)) ≤ℤ l.sum;
  high : l.sum ≤ℤ pos (l.rider-index * 9223372036854775808);
}
