use Rattle.std.proofs.Common.{rules, ◌≡◌, ℕ, ◌+◌, ◌-◌, ◌<◌, ◌∷◌}
use Rattle.input_rows.proofs.Common.{range_with_len}

-- a range begins with its first number
pub range_with_len-first : (a b : ℕ) → a < b → range_with_len a (b - a) ≡ a ∷ range_with_len (a + 1) (b - (a + 1))
range_with_len-first a b below = search rules
