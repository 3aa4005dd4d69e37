use Rattle.std.specs.Prelude.{ℕ, ◌<◌, ◌≤◌, List, length, slice_index_or}
use Rattle.stop_orders.specs.PairList.{IsBefore}

-- the place is that of the first pair that doesn't come before this one, or behind all
pub record IsFirstNotBefore (pairs : List (ℕ × ℕ)) (q : ℕ × ℕ) (place : ℕ) : Type 0 where
  pub within : place ≤ length pairs
  pub before : (k : ℕ) → k < place → IsBefore (slice_index_or pairs k (0, 0)) q
  pub after : (k : ℕ) → place ≤ k → k < length pairs → IsBefore (slice_index_or pairs k (0, 0)) q → ⊥
