use Rattle.std.proofs.Common.{ℕ, ◌-◌, ◌<◌, ◌≤◌, List, length, slice_index_or}
use Rattle.stop_orders.proofs.Common.{IsBefore}
use Rattle.stop_orders.proofs.pair_list.first_not_before.Given as goal

-- what comes before the pair, and what doesn't
pub record Halves (pairs : List (ℕ × ℕ)) (q : ℕ × ℕ) (start low high : ℕ) : Type 0 where
  pub start_low : start ≤ low
  pub low_high : low ≤ high
  pub within : high ≤ length pairs
  pub before : (k : ℕ) → k < low → IsBefore (slice_index_or pairs k (0, 0)) q
  pub after : (k : ℕ) → high ≤ k → k < length pairs → IsBefore (slice_index_or pairs k (0, 0)) q → ⊥

abbrev pub invariant-loop-low : goal.invariant-loop-low
invariant-loop-low l = Halves l.pairs (l.a, l.b) l.start l.low l.high

abbrev pub decreases-loop-low : goal.decreases-loop-low
decreases-loop-low l = l.high - l.low
