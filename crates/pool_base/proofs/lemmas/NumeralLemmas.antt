use Rattle.std.proofs.lemmas.Bool.Decides.{nat_tests}
use Rattle.std.proofs.Common.{
  rules,
  ◌≡◌,
  ◌≢◌,
  ◌↔◌,
  ℕ,
  zero,
  suc,
  ◌<◌,
  ◌≤◌,
  ◌^◌,
  true,
  false,
  List,
  [],
  ◌∷◌,
  Some,
  None,
  Result,
  Ok,
  Err,
  IsErr,
  length,
  slice_index,
  nat_le,
  refl,
  arith,
}
use Rattle.std.specs.List.{list_all}
use Rattle.std.specs.Char.{is_ascii_digit}
use Rattle.std.specs.Result.{IsErrOf}
use Rattle.std.proofs.lemmas.Bool.{and_from, and_left, and_right, and_parts, cases_Bool, le-leb, lt-leb, leb-true}
use Rattle.pool_base.specs.declared.number.NumberFault.{NumberFault}
use Rattle.pool_base.specs.declared.number.NumberFault.TheVariants.{Empty, NotDigit, TooLarge}
use Rattle.pool_base.specs.Number.{IsDigit, AllDigits, value_of, IsFirstNoDigit}
use Rattle.pool_base.specs.Numeral.{is_numeral, number_up_to, number_in, number_at}

digit_passes : (c : ℕ) → IsDigit c → is_ascii_digit c ≡ true
digit_passes c digit = and_from (nat_le 48 c) (nat_le c 57) (le-leb 48 c digit.0) (le-leb c 57 digit.1)

other_fails : (c : ℕ) → (IsDigit c → ⊥) → is_ascii_digit c ≡ false
other_fails c other = search (rules, cases_Bool, and_parts, leb-true)

digits_pass : (text : List ℕ) → AllDigits text → list_all is_ascii_digit text ≡ true
digits_pass [] digits = refl
digits_pass (c ∷ cs) digits =
    and_from (is_ascii_digit c) (list_all is_ascii_digit cs) (digit_passes c (digits 0 (omega arith)))
    (digits_pass cs (λ k within. digits (suc k) (omega arith)))

other_shows : (text : List ℕ) (k : ℕ) → k < length text → (IsDigit (slice_index text k) → ⊥) → list_all is_ascii_digit text ≡ false
other_shows [] k within other = absurd (omega arith)
other_shows (c ∷ cs) zero within other = and_left (is_ascii_digit c) (list_all is_ascii_digit cs) (other_fails c other)
other_shows (c ∷ cs) (suc k) within other = search (rules, and_right, (other_shows cs k))

-- digits, one or more, are a numeral
pub is_numeral-digits : (text : List ℕ) → text ≢ [] → AllDigits text → is_numeral text ≡ true
is_numeral-digits [] some digits = absurd (some refl)
is_numeral-digits (c ∷ cs) some digits = digits_pass (c ∷ cs) digits

-- a text with another character is none
pub is_numeral-other : (text : List ℕ) (k : ℕ) → k < length text → (IsDigit (slice_index text k) → ⊥) → is_numeral text ≡ false
is_numeral-other [] k within other = refl
is_numeral-other (c ∷ cs) k within other = other_shows (c ∷ cs) k within other

-- a numeral of at most so much gives its value
pub number_up_to-given : (most : ℕ) (text : List ℕ) → is_numeral text ≡ true → value_of text ≤ most → number_up_to most text ≡ Some (value_of text)
unfolding number_up_to
number_up_to-given most text numeral within = search (rules, and_from, le-leb)

-- a greater value gives nothing
pub number_up_to-large : (most : ℕ) (text : List ℕ) → most < value_of text → number_up_to most text ≡ None
unfolding number_up_to
number_up_to-large most text large = search (rules, and_right, lt-leb)

-- a text that is no numeral gives nothing
pub number_up_to-other : (most : ℕ) (text : List ℕ) → is_numeral text ≡ false → number_up_to most text ≡ None
unfolding number_up_to
number_up_to-other most text other = search (rules, and_left)

-- what is given is the value of a numeral, and at most so much
pub record IsNumberUpTo (most : ℕ) (text : List ℕ) (n : ℕ) : Type 0 where
  pub numeral : is_numeral text ≡ true
  pub value : n ≡ value_of text
  pub within : n ≤ most

pub number_up_to-some : (most : ℕ) (text : List ℕ) (n : ℕ) → number_up_to most text ≡ Some n → IsNumberUpTo most text n
unfolding number_up_to
number_up_to-some most text n given = search (rules, cases_Bool, and_parts, leb-true)

-- a text that `read_number` refuses gives nothing
pub number_up_to-refused : (most : ℕ) (text : List ℕ) (r : Result ℕ NumberFault) → most < 2 ^ 64 → IsErr r → (IsErrOf r Empty ↔ (text ≡ [])) →
    ((place : ℕ) → IsErrOf r (NotDigit place) ↔ IsFirstNoDigit text place) → (IsErrOf r TooLarge ↔ (AllDigits text × (2 ^ 64 ≤ value_of text))) →
    number_up_to most text ≡ None
number_up_to-refused most text (Ok n) small err empty not_digit too_large = cc
number_up_to-refused most text (Err Empty) small err empty not_digit too_large = search (rules, number_up_to-other)
number_up_to-refused most text (Err (NotDigit place)) small err empty not_digit too_large =
    grind (arith, nat_tests, (number_up_to-other most text), (is_numeral-other text place))
number_up_to-refused most text (Err TooLarge) small err empty not_digit too_large = search (rules, number_up_to-large)

-- the number that a column gives is the number in it
pub number_in-at : {F : Type 0} (fault : ℕ → ℕ → F) (row : ℕ) (fields : List (List ℕ)) (column n : ℕ) → number_in fault row fields column ≡ Ok n →
    n ≡ number_at fields column
number_in-at fault row fields column n given = search rules

-- and at most 1,000,000,000
pub number_in-within : {F : Type 0} (fault : ℕ → ℕ → F) (row : ℕ) (fields : List (List ℕ)) (column n : ℕ) → number_in fault row fields column ≡ Ok n →
    n ≤ 1000000000
number_in-within fault row fields column n given = search (rules, number_up_to-some)
