-- Numerals at the beginning of a text.
use Rattle.std.proofs.Common.{
  ◌≡◌,
  ℕ,
  suc,
  ◌+◌,
  ◌-◌,
  ◌*◌,
  ◌<◌,
  ◌≤◌,
  ◌^◌,
  get_or,
  drop,
  true,
  List,
  [],
  ◌∷◌,
  ◌++◌,
  length,
  decimal,
  refl,
  sym,
  ap,
  ◌∙◌,
  arith,
  rules,
  Bool,
  false,
}
use Rattle.report_audit.proofs.Common.{
  list_all,
  is_ascii_digit,
  at_drop_more,
  decimal_is_IsNumeral_wide,
  AllDigits,
  value_of,
  value_after,
  BeginsWith,
  BeginsWithNone,
  ends_number,
}
use Rattle.std.proofs.lemmas.Bool.Decides.{nat_tests}
use Rattle.std.proofs.lemmas.Str.Parse.{IsNumeralModel, numerals_by_fold, tells_by_index}

-- numerals are read as std reads them
own : IsNumeralModel AllDigits (value_after 0)
own = numerals_by_fold AllDigits tells_by_index value_after (record { empty = λ n. refl; more = λ n c cs _. refl })

digits_all : (text : List ℕ) → AllDigits text → list_all is_ascii_digit text ≡ true
digits_all [] digits = refl
digits_all (c ∷ cs) digits = grind (arith, nat_tests, digits 0, digits_all cs (λ k within. digits (suc k) (omega arith)))

-- further digits make no value smaller
value_after-ge : (n : ℕ) (cs : List ℕ) → n ≤ value_after n cs
value_after-ge n [] = omega arith
value_after-ge n (c ∷ cs) = omega (arith, value_after-ge (n * 10 + (c - 48)) cs)

-- a value that is too large after the next digit stays too large
pub value_after-most : (most v n i : ℕ) (ds : List ℕ) → i < length ds → value_after n (drop i ds) ≡ v → most ≤ n * 10 + (get_or ds i 0 - 48) → most ≤ v
value_after-most most v n i ds within is large =
    let next = at_drop_more (value_after n) ds i 0 within in
    omega (arith, next, is, value_after-ge (n * 10 + (get_or ds i 0 - 48)) (drop (i + 1) ds))

-- a number's text is digits, whose value is the number
pub decimal_digits : (n : ℕ) → n < 2 ^ 128 → list_all is_ascii_digit (decimal n) ≡ true
decimal_digits n small = digits_all (decimal n) (own.from (decimal n) (decimal_is_IsNumeral_wide n (omega arith)).0.1)

pub decimal_value : (n : ℕ) → n < 2 ^ 128 → value_of (decimal n) ≡ n
decimal_value n small =
    let numeral = decimal_is_IsNumeral_wide n (omega arith) in
    own.same (decimal n) numeral.0.1 ∙ numeral.1

-- digits end where they end
pub digits_unique : (a b r s : List ℕ) → list_all is_ascii_digit a ≡ true → list_all is_ascii_digit b ≡ true → ends_number r ≡ true → ends_number s ≡ true →
    a ++ r ≡ b ++ s → (a ≡ b) × (r ≡ s)
digits_unique [] [] r s da db er es e = (refl, e)
digits_unique [] (b ∷ ys) r s da db er es e = grind (arith, nat_tests)
digits_unique (a ∷ xs) [] r s da db er es e = grind (arith, nat_tests)
digits_unique (a ∷ xs) (b ∷ ys) r s da db er es e = grind (arith, nat_tests, digits_unique xs ys r s)

-- a text that begins with a number begins with that number's digits, up to where they end
module _ (text digits rest : List ℕ) (most : ℕ) (small : most < 2 ^ 128) (first : (text ≡ digits ++ rest) × (list_all is_ascii_digit digits ≡ true) ×
    (ends_number rest ≡ true)) where
  begins_digits : (x : ℕ) (r : List ℕ) → BeginsWith decimal (λ n. n ≤ most) text x r → digits ≡ decimal x
  begins_digits x r b = (digits_unique digits (decimal x) rest r first.1 (decimal_digits x (omega (arith, b.lawful))) first.2 b.ends (sym first.0 ∙ b.whole)).0

  begins_value : (x : ℕ) (r : List ℕ) → BeginsWith decimal (λ n. n ≤ most) text x r → value_of digits ≡ x
  begins_value x r b = search (rules, begins_digits, decimal_value)

  -- digits of too great a value
  pub begins_with_large : most < value_of digits → BeginsWithNone decimal (λ n. n ≤ most) text
  begins_with_large large x r b = search (rules, begins_value)

  -- digits with a zero before them, or none
  pub begins_with_other : (digits ≡ decimal (value_of digits) → ⊥) → BeginsWithNone decimal (λ n. n ≤ most) text
  begins_with_other other x r b = other (begins_digits x r b ∙ ap decimal (sym (begins_value x r b)))

-- what begins with no digit begins with no number
pub no_number : (c : ℕ) (cs : List ℕ) (n : ℕ) (rest : List ℕ) → is_ascii_digit c ≡ false → n < 2 ^ 128 → c ∷ cs ≡ decimal n ++ rest → ⊥
no_number c cs n rest other small e = by (decimal n) (decimal_is_IsNumeral_wide n (omega arith)).0.0 (decimal_digits n small) e
  where
    by : (digits : List ℕ) → 0 < length digits → list_all is_ascii_digit digits ≡ true → c ∷ cs ≡ digits ++ rest → ⊥
    by [] some all same = absurd (omega arith)
    by (d ∷ ds) some all same = grind (arith, nat_tests)

-- what is found not to hold
pub not_so : {T : Type 0} (found : Bool) → (T → found ≡ true) → found ≡ false → T → ⊥
not_so found whole off holds = search rules
