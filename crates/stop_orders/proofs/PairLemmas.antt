use Rattle.std.proofs.Common.{ℕ, zero, suc, ◌+◌, ◌-◌, ◌<◌, ◌≤◌, List, length, slice_index_or, subst, arith, inl, inr}
use Rattle.stop_orders.proofs.Common.{cases_lt, IsBefore, ArePairs}

pub before_trans : (p q r : ℕ × ℕ) → IsBefore p q → IsBefore q r → IsBefore p r
before_trans p q r a b = (omega (arith, a.0, b.0), λ e. omega (arith, a.1 (omega (arith, a.0, b.0, e)), b.1 (omega (arith, a.0, b.0, e))))

-- of rising pairs each comes before all later ones
pub pairs_far : (pairs : List (ℕ × ℕ)) → ArePairs pairs → (j d : ℕ) → j + suc d < length pairs →
    IsBefore (slice_index_or pairs j (0, 0)) (slice_index_or pairs (j + suc d) (0, 0))
pairs_far pairs are j zero h = subst (λ n. IsBefore (slice_index_or pairs j (0, 0)) (slice_index_or pairs n (0, 0))) (omega arith) (are.rising j (omega arith))
pairs_far pairs are j (suc d) h =
    before_trans (slice_index_or pairs j (0, 0)) (slice_index_or pairs (j + suc d) (0, 0)) (slice_index_or pairs (j + suc (suc d)) (0, 0))
    (pairs_far pairs are j d (omega arith))
    (subst (λ n. IsBefore (slice_index_or pairs (j + suc d) (0, 0)) (slice_index_or pairs n (0, 0))) (omega arith) (are.rising (j + suc d) (omega arith)))

pub pairs_before : (pairs : List (ℕ × ℕ)) → ArePairs pairs → (j k : ℕ) → j < k → k < length pairs →
    IsBefore (slice_index_or pairs j (0, 0)) (slice_index_or pairs k (0, 0))
pairs_before pairs are j k h b = subst (λ n. IsBefore (slice_index_or pairs j (0, 0)) (slice_index_or pairs n (0, 0))) (omega arith)
    (pairs_far pairs are j (k - suc j) (omega arith))

-- whatever stands up to a pair that comes before q comes before q
pub before_up_to : (pairs : List (ℕ × ℕ)) → ArePairs pairs → (m k : ℕ) (q : ℕ × ℕ) → m < length pairs → IsBefore (slice_index_or pairs m (0, 0)) q → k < m + 1 →
    IsBefore (slice_index_or pairs k (0, 0)) q
before_up_to pairs are m k q b here h = elim (cases_lt k m) [
  | inl less ↦ before_trans (slice_index_or pairs k (0, 0)) (slice_index_or pairs m (0, 0)) q (pairs_before pairs are k m less b) here
  | inr more ↦ subst (λ n. IsBefore (slice_index_or pairs n (0, 0)) q) (omega (arith, h, more)) here
]

-- whatever stands from a pair on that doesn't come before q doesn't either
pub not_before_from : (pairs : List (ℕ × ℕ)) → ArePairs pairs → (m k : ℕ) (q : ℕ × ℕ) → (IsBefore (slice_index_or pairs m (0, 0)) q → ⊥) → m ≤ k →
    k < length pairs → IsBefore (slice_index_or pairs k (0, 0)) q → ⊥
not_before_from pairs are m k q not_here h b there = elim (cases_lt m k) [
  | inl less ↦ not_here (before_trans (slice_index_or pairs m (0, 0)) (slice_index_or pairs k (0, 0)) q (pairs_before pairs are m k less b) there)
  | inr more ↦ not_here (subst (λ n. IsBefore (slice_index_or pairs n (0, 0)) q) (omega (arith, h, more)) there)
]
