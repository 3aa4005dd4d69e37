use Rattle.std.specs.Prelude.{ℕ, zero, suc, ◌+◌}

-- the sum of f 0, f 1 and so on, of so many
abbrev pub sum_below : (ℕ → ℕ) → ℕ → ℕ
sum_below f zero = 0
sum_below f (suc n) = sum_below f n + f n
