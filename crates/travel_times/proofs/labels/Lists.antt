-- Lists that a loop writes, one item more.
use Rattle.std.proofs.Common.{◌≡◌, ℕ, ◌+◌, ◌<◌, List, [], ◌∷◌, ◌++◌, length, set, slice_index, inl, inr, arith}
use Rattle.travel_times.proofs.Common.{cases_eq, get_or-set_other, get_or-set_same, get_or_append_left, get_or_push}

-- an item is written at its place
pub set_more : (P : ℕ → ℕ → Type 0) (xs : List ℕ) (i x : ℕ) → i < length xs → ((k : ℕ) → k < i → P k (slice_index xs k)) → P i x → (k : ℕ) → k < i + 1 →
    P k (slice_index (set xs i x) k)
set_more P xs i x inside before here k lt = elim (cases_eq k i) [
  | inl same ↦ rw (same, get_or-set_same xs i x 0 inside) here
  | inr other ↦ rw (get_or-set_other xs i k x 0 other) (before k (omega (arith, lt, other)))
]

-- an item is pushed
pub push_more : (P : ℕ → ℕ → Type 0) (xs : List ℕ) (i x : ℕ) → length xs ≡ i → ((k : ℕ) → k < i → P k (slice_index xs k)) → P i x → (k : ℕ) → k < i + 1 →
    P k (slice_index (xs ++ x ∷ []) k)
push_more P xs i x each before here k lt = elim (cases_eq k i) [
  | inl same ↦ rw (same, ← each, get_or_push xs x 0) (rw each here)
  | inr other ↦ rw (get_or_append_left xs (x ∷ []) 0 k (omega (arith, each, lt, other))) (before k (omega (arith, lt, other)))
]
