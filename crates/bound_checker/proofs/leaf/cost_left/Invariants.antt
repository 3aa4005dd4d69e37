use Rattle.std.proofs.Common.{◌≡◌, ◌+◌, ◌*◌, drop, pos, ◌-ℤ◌, neg_ℤ, ◌≤ℤ◌}
use Rattle.bound_checker.proofs.Common.{multiplier_sum}
use Rattle.bound_checker.proofs.leaf.cost_left.Given as goal

abbrev pub invariant-loop-rider : goal.invariant-loop-rider
invariant-loop-rider l = record {
  value : l.cost -ℤ multiplier_sum l.multipliers (drop l.rider-index l.rider-items) ≡ pos (1024 * l.row.cost) -ℤ multiplier_sum l.multipliers l.rider-items;
  low : neg_ℤ (pos (l.rider-index * 9223372036854775808)) ≤ℤ l.cost;
  high : l.cost ≤ℤ pos (1024000000000 + l.rider-index * 9223372036854775808);
}
