use Rattle.std.proofs.Common.{◌≡◌, ◌≢◌, ℕ, ◌+◌, ◌-◌, ◌<◌, ◌≤◌, List, length, slice_index, set, rules}

-- the prices of the first i vehicles have fallen
pub record IsFalling (vehicles : List ℕ) (by i : ℕ) (old new : List ℕ) : Type 0 where
  pub same_length : length new ≡ length old
  pub before : (t : ℕ) → t < length vehicles → t < i → slice_index new (slice_index vehicles t) + by ≡ slice_index old (slice_index vehicles t)
  pub after : (t : ℕ) → t < length vehicles → i ≤ t → slice_index new (slice_index vehicles t) ≡ slice_index old (slice_index vehicles t)
  pub outside : (j : ℕ) → ((t : ℕ) → t < length vehicles → slice_index vehicles t ≢ j) → slice_index new j ≡ slice_index old j

-- the prices of the riders at positions 1 to i - 1 have risen
pub record IsRising (riders : List ℕ) (by i : ℕ) (old new : List ℕ) : Type 0 where
  pub same_length : length new ≡ length old
  pub before : (t : ℕ) → 0 < t → t < length riders → t < i → slice_index new (slice_index riders t) ≡ slice_index old (slice_index riders t) + by
  pub after : (t : ℕ) → 0 < t → t < length riders → i ≤ t → slice_index new (slice_index riders t) ≡ slice_index old (slice_index riders t)
  pub outside : (j : ℕ) → ((t : ℕ) → 0 < t → t < length riders → slice_index riders t ≢ j) → slice_index new j ≡ slice_index old j

pub IsFalling-more : (vs : List ℕ) (by i v : ℕ) (old new : List ℕ)
    → ((t : ℕ) → t < length vs → slice_index vs t < length old)
    → ((s t : ℕ) → s < length vs → t < length vs → slice_index vs s ≡ slice_index vs t → s ≡ t)
    → ((t : ℕ) → t < length vs → by ≤ slice_index old (slice_index vs t))
    → i < length vs → v ≡ slice_index vs i → IsFalling vs by i old new → IsFalling vs by (i + 1) old (set new v (slice_index new v - by))
IsFalling-more vs by i v old new within distinct enough hi is inv = search rules
