-- The words and numbers of which lines are made.
use Rattle.std.specs.Prelude.{ℕ, ℤ, List, ◌++◌, codes, decimal}
use Rattle.std.specs.Fmt.{signed_decimal}

-- words, and a number in decimal digits
unfoldable pub numbered : List ℕ → ℕ → List ℕ
numbered words n = words ++ decimal n

-- words, and a number in decimal digits, behind `-` where it is below 0
unfoldable pub signed : List ℕ → ℤ → List ℕ
signed words z = words ++ signed_decimal z

-- a space and a number
abbrev pub spaced : ℕ → List ℕ
spaced n = numbered (codes " ") n
