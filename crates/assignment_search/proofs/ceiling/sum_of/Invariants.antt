use Rattle.std.proofs.Common.{◌≡◌, ◌*◌, get_or, pos, neg_ℤ, ◌≤ℤ◌}
use Rattle.assignment_search.proofs.Common.{int_sum_below}
use Rattle.assignment_search.proofs.ceiling.sum_of.Given as goal

abbrev pub invariant-loop-number : goal.invariant-loop-number
invariant-loop-number l = record {
  value : l.sum ≡ int_sum_below l.number-index (λ r. get_or l.numbers r (pos 0));
  low : neg_ℤ (pos (l.number-index * 8000000000000)) ≤ℤ l.sum;
  high : l.sum ≤ℤ pos (l.number-index * 1024000000000);
}
