-- Signed numbers at the beginning of a text.
use Rattle.std.proofs.Common.{
  ◌≡◌,
  ℕ,
  suc,
  ◌≤◌,
  ◌<◌,
  ◌^◌,
  true,
  ℤ,
  pos,
  negsuc,
  to_z,
  of_z,
  w64,
  List,
  ◌∷◌,
  ◌++◌,
  decimal,
  codes,
  refl,
  sym,
  ◌∙◌,
  subst,
  arith,
  rules,
}
use Rattle.report_audit.proofs.Common.{signed, BeginsWith, BeginsWithNone, ends_number, IsWide, IsLong}
use Rattle.std.specs.Fmt.{signed_decimal}
use Rattle.std.specs.Int.{w128}
use Rattle.report_audit.proofs.lines.ListLemmas.{IsItem}
use Rattle.report_audit.proofs.lemmas.lines.NumeralLemmas.{no_number}
use Rattle.report_audit.proofs.lemmas.lines.ReadingLemmas.{EndsOnce, decimal_once, behind_once}

below_begins : (text : List ℕ) (n : ℕ) (rest : List ℕ) → n < 2 ^ 127 → ends_number rest ≡ true → 45 ∷ text ≡ signed_decimal (negsuc n) ++ rest →
    BeginsWith decimal (λ m. m ≤ 2 ^ 127) text (suc n) rest
below_begins text n rest small ends e = search rules

pub below_none : (text : List ℕ) → BeginsWithNone decimal (λ m. m ≤ 2 ^ 127) text → BeginsWithNone signed_decimal IsWide (45 ∷ text)
below_none text none (pos n) rest b = no_number 45 text n rest refl (let small : n < 2 ^ 127 = b.lawful in omega arith) b.whole
below_none text none (negsuc n) rest b = none (suc n) rest (below_begins text n rest b.lawful b.ends b.whole)

pub below_zero_none : (text : List ℕ) (m : ℕ) (after : List ℕ) → BeginsWith decimal (λ m. m ≤ 2 ^ 127) text m after → m ≡ 0 →
    BeginsWithNone signed_decimal IsWide (45 ∷ text)
below_zero_none text m after first zero (pos n) rest b = no_number 45 text n rest refl (let small : n < 2 ^ 127 = b.lawful in omega arith) b.whole
below_zero_none text m after first zero (negsuc n) rest b =
    let same : m ≡ suc n = ((decimal_once (2 ^ 127) (omega arith)).once text m (suc n) after rest first (below_begins text n rest b.lawful b.ends b.whole)).0 in
    omega arith

signed_once : EndsOnce signed_decimal IsWide
signed_once = record { once = once }
  where
    same : EndsOnce decimal (λ n. n ≤ 2 ^ 127)
    same = decimal_once (2 ^ 127) (omega arith)

    once : (text : List ℕ) (x y : ℤ) (r s : List ℕ) → BeginsWith signed_decimal IsWide text x r → BeginsWith signed_decimal IsWide text y s → (x ≡ y) × (r ≡ s)
    once text (pos x) (pos y) r s bx by =
        let here : BeginsWith decimal (λ n. n ≤ 2 ^ 127) text x r = record { whole = bx.whole; lawful = omega (arith, bx.lawful); ends = bx.ends } in
        let there : BeginsWith decimal (λ n. n ≤ 2 ^ 127) text y s = record { whole = by.whole; lawful = omega (arith, by.lawful); ends = by.ends } in
        grind (arith, same.once text x y r s here there)
    once text (pos x) (negsuc y) r s bx by = absurd (no_number 45 (decimal (suc y) ++ s) x r refl (omega (arith, bx.lawful)) (sym by.whole ∙ bx.whole))
    once text (negsuc x) (pos y) r s bx by = absurd (no_number 45 (decimal (suc x) ++ r) y s refl (omega (arith, by.lawful)) (sym bx.whole ∙ by.whole))
    once text (negsuc x) (negsuc y) r s bx by =
        let here : BeginsWith decimal (λ m. m ≤ 2 ^ 127) (decimal (suc x) ++ r) (suc x) r = below_begins (decimal (suc x) ++ r) x r bx.lawful bx.ends refl in
        let there = below_begins (decimal (suc x) ++ r) y s by.lawful by.ends (sym bx.whole ∙ by.whole) in
        grind (arith, same.once (decimal (suc x) ++ r) (suc x) (suc y) r s here there)

-- such a number is one of its type
pub wide_same : (z : ℤ) → IsWide z → to_z w128 (of_z w128 z) ≡ z
wide_same z is = search rules

-- behind words
pub signed_words_once : (words : List ℕ) → EndsOnce (signed words) IsWide
unfolding signed
signed_words_once words = behind_once words signed_once

-- numbers of 64 bits
long_is_wide : (z : ℤ) → IsLong z → IsWide z
long_is_wide (pos n) is = let small : n < 2 ^ 63 = is in omega arith
long_is_wide (negsuc n) is = let small : n < 2 ^ 63 = is in omega arith

widened : (words text : List ℕ) (z : ℤ) (rest : List ℕ) → BeginsWith (signed words) IsLong text z rest → BeginsWith (signed words) IsWide text z rest
widened words text z rest b = record { whole = b.whole; lawful = long_is_wide z b.lawful; ends = b.ends }

pub not_long : (words text : List ℕ) (z : ℤ) (rest : List ℕ) → BeginsWith (signed words) IsWide text z rest → (IsLong z → ⊥) →
    BeginsWithNone (signed words) IsLong text
not_long words text z rest b other x r bx =
    other (subst IsLong ((signed_words_once words).once text x z r rest (widened words text x r bx) b).0 bx.lawful)

-- each behind a space
pub long_item : IsItem (signed (codes " ")) IsLong
unfolding signed
long_item =
    let words = codes " " in
    record {
      form = record { once = λ text x y r s bx by. (signed_words_once words).once text x y r s (widened words text x r bx) (widened words text y s by) };
      behind = record { apart = λ z rest ends. refl };
      some = λ z. omega arith;
    }

pub long_same : (z : ℤ) → IsLong z → to_z w64 (of_z w64 z) ≡ z
long_same z is = search rules
