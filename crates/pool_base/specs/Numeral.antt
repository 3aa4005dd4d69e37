use Rattle.std.specs.Prelude.{ℕ, ◌+◌, Bool, false, ◌&&◌, List, [], ◌∷◌, Option, Some, None, Result, nat_le, slice_index_or, unwrap_or, if◌then◌else◌}
use Rattle.std.specs.List.{list_all}
use Rattle.std.specs.Char.{is_ascii_digit}
use Rattle.std.specs.Option.{ok_or}
use Rattle.pool_base.specs.Number.{value_of}

-- the text is one decimal digit or more, and nothing else
abbrev pub is_numeral : List ℕ → Bool
is_numeral [] = false
is_numeral (c ∷ cs) = list_all is_ascii_digit (c ∷ cs)

-- the value of a numeral that is at most so much, and nothing for any other text
unfoldable pub number_up_to : ℕ → List ℕ → Option ℕ
number_up_to most text = if is_numeral text && nat_le (value_of text) most then Some (value_of text) else None

-- the number in a column of a row's fields, at most 1,000,000,000, or the fault of this row and this column;
-- a fault counts columns from 1
abbrev pub number_in : {F : Type 0} → (ℕ → ℕ → F) → ℕ → List (List ℕ) → ℕ → Result ℕ F
number_in fault row fields column =
    ok_or (number_up_to 1000000000 (slice_index_or fields column [])) (fault row (column + 1))

-- the same number, and 0 where there is none
abbrev pub number_at : List (List ℕ) → ℕ → ℕ
number_at fields column = unwrap_or (number_up_to 1000000000 (slice_index_or fields column [])) 0
