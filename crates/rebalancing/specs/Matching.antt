use Rattle.std.specs.Prelude.{◌≡◌, ◌≢◌, ℕ, ◌<◌, ◌≤◌, List, length, slice_index, All, AllPairs, sum_by}
use Rattle.pool_base.specs.TravelTime.{never}

-- the seconds from the place of a pair's first index to the place of its second
abbrev pub pair_seconds : (ℕ → ℕ → ℕ) → List ℕ → List ℕ → ℕ × ℕ → ℕ
pair_seconds tau from to pair = tau (slice_index from pair.0) (slice_index to pair.1)

-- the pairs join places of two lists, each place at most once, and only where there is a way
pub record IsMatching (tau : ℕ → ℕ → ℕ) (from to : List ℕ) (pairs : List (ℕ × ℕ)) : Type 0 where
  pub within : All (λ (p : ℕ × ℕ). (p.0 < length from) × (p.1 < length to)) pairs
  pub reachable : All (λ (p : ℕ × ℕ). pair_seconds tau from to p < never) pairs
  pub once_from : AllPairs (λ (p q : ℕ × ℕ). p.0 ≢ q.0) pairs
  pub once_to : AllPairs (λ (p q : ℕ × ℕ). p.1 ≢ q.1) pairs

-- no matching has more pairs, and none of as many pairs takes less time in all
pub record IsBestMatching (tau : ℕ → ℕ → ℕ) (from to : List ℕ) (pairs : List (ℕ × ℕ)) : Type 0 where
  pub matching : IsMatching tau from to pairs
  pub most_pairs : (other : List (ℕ × ℕ)) → IsMatching tau from to other → length other ≤ length pairs
  pub least_total : (other : List (ℕ × ℕ)) → IsMatching tau from to other → length other ≡ length pairs → sum_by (pair_seconds tau from to) pairs ≤ sum_by (pair_seconds tau from to) other
