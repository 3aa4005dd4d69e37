use Rattle.std.specs.Prelude.{◌≡◌, ◌≢◌, ℕ, ◌+◌, ◌-◌, ◌*◌, ◌<◌, ◌≤◌, List, [], length, slice_index, fold}

-- the character is one of `0` to `9`
abbrev pub IsDigit : ℕ → Type 0
IsDigit c = (48 ≤ c) × (c ≤ 57)

-- every character is a decimal digit
abbrev pub AllDigits : List ℕ → Type 0
AllDigits text = (k : ℕ) → k < length text → IsDigit (slice_index text k)

-- the value of a decimal numeral
abbrev pub value_of : List ℕ → ℕ
value_of text = fold (λ n c. n * 10 + (c - 48)) 0 text

-- the character at this place is the first that is no digit
pub record IsFirstNoDigit (text : List ℕ) (place : ℕ) : Type 0 where
  pub within : place < length text
  pub other : IsDigit (slice_index text place) → ⊥
  pub before : (k : ℕ) → k < place → IsDigit (slice_index text k)

-- a text of digits, at least one, that has the number's value
pub record IsNumeralOf (n : ℕ) (text : List ℕ) : Type 0 where
  pub some : text ≢ []
  pub digits : AllDigits text
  pub value : value_of text ≡ n
