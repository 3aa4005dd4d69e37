use Rattle.std.specs.Prelude.{◌≡◌, ℕ, ◌+◌, ◌<◌, ◌≤◌, All, List, length, slice_index_or}

-- one pair comes before another: its first number is no greater, and where they are equal its second is less
abbrev pub IsBefore : ℕ × ℕ → ℕ × ℕ → Type 0
IsBefore p q = (p.0 ≤ q.0) × (p.0 ≡ q.0 → p.1 < q.1)

-- the pairs rise, each once, and the first number of each is below its second
pub record ArePairs (pairs : List (ℕ × ℕ)) : Type 0 where
  pub rising : (k : ℕ) → k + 1 < length pairs → IsBefore (slice_index_or pairs k (0, 0)) (slice_index_or pairs (k + 1) (0, 0))
  pub below : All (λ p. p.0 < p.1) pairs
