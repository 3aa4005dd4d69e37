use Rattle.std.specs.Prelude.{ℕ, ◌+◌, ◌<◌, List, All, Contains, length, slice_index_or}
use Rattle.stop_orders.specs.PairList.{IsBefore}

-- the list has, in order, the pairs of a relation that stand before a and b; an entry has a pair, and a pair has an entry
pub record ListsBefore (X : Type 0) (pair : X → ℕ × ℕ) (entry : ℕ → ℕ → X) (none : X) (E : ℕ → ℕ → Type 0) (a b : ℕ) (xs : List X) : Type 0 where
  pub right : All (λ x. E (pair x).0 (pair x).1) xs
  pub rising : (k : ℕ) → k + 1 < length xs → IsBefore (pair (slice_index_or xs k none)) (pair (slice_index_or xs (k + 1) none))
  pub before : All (λ x. IsBefore (pair x) (a, b)) xs
  pub whole : (c d : ℕ) → E c d → IsBefore (c, d) (a, b) → Contains xs (entry c d)
