use Rattle.std.proofs.Common.{◌≡◌, ◌*◌, drop, pos, ◌+ℤ◌, neg_ℤ, ◌≤ℤ◌}
use Rattle.assignment_search.proofs.Common.{multiplier_sum}
use Rattle.assignment_search.proofs.first_fit_pass.sum_of_modest.Given as goal

abbrev pub invariant-loop-rider : goal.invariant-loop-rider
invariant-loop-rider l = record {
  value : l.sum +ℤ multiplier_sum l.multipliers (drop l.rider-index l.riders) ≡ multiplier_sum l.multipliers l.riders;
  low : neg_ℤ (pos (l.rider-index * 8000000000000)) ≤ℤ l.sum;
  high : l.sum ≤ℤ pos (l.rider-index * 1024000000000);
}
