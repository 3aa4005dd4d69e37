use Rattle.std.specs.Prelude.{ℕ, ◌*◌, ℤ, pos, neg_ℤ, ◌≤ℤ◌}

-- How large the terms of a leaf value are.

-- a number of which n may be added up
pub record IsSmallSum (n : ℕ) (z : ℤ) : Type 0 where
  pub low : neg_ℤ (pos (n * 147573952589676412928)) ≤ℤ z
  pub high : z ≤ℤ pos (n * 147573952589676412928)

-- a term of a leaf value
abbrev pub IsSmall : ℤ → Type 0
IsSmall z = IsSmallSum 1 z
