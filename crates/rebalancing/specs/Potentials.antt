use Rattle.std.specs.Prelude.{◌≡◌, ℕ, ◌<◌, ℤ, pos, ◌+ℤ◌, ◌-ℤ◌, ◌≤ℤ◌, List, length, slice_index_or, All, Any}
use Rattle.pool_base.specs.TravelTime.{never}
use Rattle.rebalancing.specs.Matching.{pair_seconds}

-- what a pair is worth, in seconds: more than any total, so that most pairs come before least seconds
abbrev pub pair_worth : ℕ
pair_worth = 500000000001

-- the potential of a place, by its index
abbrev pub potential : List ℤ → ℕ → ℤ
potential potentials i = slice_index_or potentials i (pos 0)

-- two places' potentials are together at most the pair's seconds less its worth, and are exactly that on
-- the pairs chosen; a place of no pair has potential 0, and none is above 0
pub record ArePotentials (tau : ℕ → ℕ → ℕ) (from to : List ℕ) (pairs : List (ℕ × ℕ)) (u v : List ℤ) : Type 0 where
  pub from_length : length u ≡ length from
  pub to_length : length v ≡ length to
  pub from_at_most_0 : (i : ℕ) → i < length from → potential u i ≤ℤ pos 0
  pub to_at_most_0 : (j : ℕ) → j < length to → potential v j ≤ℤ pos 0
  pub at_most : (i j : ℕ) → i < length from → j < length to → pair_seconds tau from to (i, j) < never → (potential u i +ℤ potential v j) ≤ℤ (pos (pair_seconds tau from to (i, j)) -ℤ pos pair_worth)
  pub equal : All (λ (p : ℕ × ℕ). potential u p.0 +ℤ potential v p.1 ≡ pos (pair_seconds tau from to p) -ℤ pos pair_worth) pairs
  pub from_unmatched : (i : ℕ) → i < length from → (Any (λ (p : ℕ × ℕ). p.0 ≡ i) pairs → ⊥) → potential u i ≡ pos 0
  pub to_unmatched : (j : ℕ) → j < length to → (Any (λ (p : ℕ × ℕ). p.1 ≡ j) pairs → ⊥) → potential v j ≡ pos 0
