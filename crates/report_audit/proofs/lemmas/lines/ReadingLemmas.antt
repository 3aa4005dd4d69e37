-- Texts of one thing behind another, and of whole lines.
use Rattle.std.proofs.Common.{
  ◌≡◌,
  ◌≢◌,
  ℕ,
  ◌≤◌,
  ◌<◌,
  ◌^◌,
  Bool,
  true,
  false,
  nat_eq,
  length,
  List,
  [],
  ◌∷◌,
  ◌++◌,
  Option,
  Some,
  None,
  MatchOption,
  Bor,
  decimal,
  refl,
  sym,
  ap,
  ◌∙◌,
  append_assoc,
  append-nil,
  arith,
  rules,
}
use Rattle.report_audit.proofs.Common.{append_cancel_left, value_of, numbered, spaced, BeginsWith, BeginsWithNone, ends_number, both_texts, BothAre}
use Rattle.report_audit.proofs.lemmas.lines.NumeralLemmas.{digits_unique, decimal_digits, decimal_value}

-- the text of a thing ends at one place alone, and is that of one thing
pub record EndsOnce {X : Type 0} (t : X → List ℕ) (Is : X → Type 0) : Type 0 where
  pub once : (text : List ℕ) (x y : X) (r s : List ℕ) → BeginsWith t Is text x r → BeginsWith t Is text y s → (x ≡ y) × (r ≡ s)

-- no such text goes on with a number before it
pub record StandsApart {Y : Type 0} (u : Y → List ℕ) : Type 0 where
  pub apart : (y : Y) (rest : List ℕ) → ends_number rest ≡ true → ends_number (u y ++ rest) ≡ true

-- things of the same text are the same
abbrev pub TextIsOfOne : {X : Type 0} → (X → List ℕ) → (X → Type 0) → Type 0
TextIsOfOne {X} t Is = (a b : X) → Is a → Is b → t a ≡ t b → a ≡ b

pub pair_is : {X Y : Type 0} (a b : X × Y) → a.0 ≡ b.0 → a.1 ≡ b.1 → a ≡ b
pair_is (a, b) (c, d) e f = cc

module _ {X : Type 0} {t : X → List ℕ} {Is : X → Type 0} where
  -- a text that begins with a thing is that of this thing, and of what follows it
  pub same_begin : {text : List ℕ} {x : X} {r : List ℕ} → EndsOnce t Is → BeginsWith t Is text x r → (y : X) (s : List ℕ) → Is y → ends_number s ≡ true →
      text ≡ t y ++ s → (x ≡ y) × (r ≡ s)
  same_begin {text} {x} {r} form b y s is ends e = form.once text x y r s b (record { whole = e; lawful = is; ends = ends })

  -- a line that is the thing's text and nothing more
  pub line_whole : {line : List ℕ} {x : X} {rest : List ℕ} → BeginsWith t Is line x rest → nat_eq (length rest) 0 ≡ true → Is x × (line ≡ t x)
  line_whole {line} {x} {rest = []} b done = (b.lawful, b.whole ∙ append-nil (t x))
  line_whole {line} {x} {rest = c ∷ cs} b done = search rules

  begins_whole : {line : List ℕ} (x : X) → Is x → line ≡ t x → BeginsWith t Is line x []
  begins_whole x is e = record { whole = e ∙ sym (append-nil (t x)); lawful = is; ends = refl }

  pub line_none : {line : List ℕ} → BeginsWithNone t Is line → (x : X) → Is x → line ≢ t x
  line_none none x is e = none x [] (begins_whole x is e)

  pub line_more : {line : List ℕ} {x : X} {rest : List ℕ} → EndsOnce t Is → BeginsWith t Is line x rest → nat_eq (length rest) 0 ≡ false → (y : X) → Is y →
      line ≢ t y
  line_more {line} {x} {rest} form b more y is e =
      let f : List ℕ → Bool = λ r. nat_eq (length r) 0 in
      let none : nat_eq (length rest) 0 ≡ true = ap f (form.once line x y rest [] b (begins_whole y is e)).1 in
      cc

  pub of_one : EndsOnce t Is → TextIsOfOne t Is
  of_one form a b ia ib e = (form.once (t a) a b [] [] (begins_whole a ia refl) (begins_whole b ib e)).0

-- one thing, and another behind it
module _ {X Y : Type 0} {t : X → List ℕ} {Is : X → Type 0} {u : Y → List ℕ} (Us : Y → Type 0) (behind : StandsApart u) where
  first_of_both : {text : List ℕ} (p : X × Y) {rest : List ℕ} → BeginsWith (both_texts t u) (BothAre Is Us) text p rest →
      BeginsWith t Is text p.0 (u p.1 ++ rest)
  first_of_both p {rest} b = record { whole = b.whole ∙ append_assoc (t p.0) (u p.1) rest; lawful = b.lawful.0; ends = behind.apart p.1 rest b.ends }

  pub both_none_first : {text : List ℕ} → BeginsWithNone t Is text → BeginsWithNone (both_texts t u) (BothAre Is Us) text
  both_none_first none p rest b = none p.0 (u p.1 ++ rest) (first_of_both p b)

  pub both_none_second : {text : List ℕ} {x : X} {after : List ℕ} → EndsOnce t Is → BeginsWith t Is text x after → BeginsWithNone u Us after →
      BeginsWithNone (both_texts t u) (BothAre Is Us) text
  both_none_second {text} {x} {after} form first none p rest b =
      let same = form.once text x p.0 after (u p.1 ++ rest) first (first_of_both p b) in
      none p.1 rest (record { whole = same.1; lawful = b.lawful.1; ends = b.ends })

pub both_some : {X Y : Type 0} {t : X → List ℕ} {Is : X → Type 0} {u : Y → List ℕ} {Us : Y → Type 0} {text : List ℕ} {x : X} {after : List ℕ} {y : Y}
    {rest : List ℕ} → BeginsWith t Is text x after → BeginsWith u Us after y rest → BeginsWith (both_texts t u) (BothAre Is Us) text (x, y) rest
both_some {X} {Y} {t} {Is} {u} {Us} {text} {x} {after} {y} {rest} first second = search (rules, append_assoc)

pub both_once : {X Y : Type 0} {t : X → List ℕ} {Is : X → Type 0} {u : Y → List ℕ} {Us : Y → Type 0} → StandsApart u → EndsOnce t Is → EndsOnce u Us →
    EndsOnce (both_texts t u) (BothAre Is Us)
both_once {X} {Y} {t} {Is} {u} {Us} behind first second =
    record {
      once = λ text p q r s bp bq.
          let same = first.once text p.0 q.0 (u p.1 ++ r) (u q.1 ++ s) (first_of_both Us behind p bp) (first_of_both Us behind q bq) in
          let here : BeginsWith u Us (u p.1 ++ r) p.1 r = record { whole = refl; lawful = bp.lawful.1; ends = bp.ends } in
          let more = same_begin second here q.1 s bq.lawful.1 bq.ends same.1 in
          (pair_is p q same.0 more.0, more.1);
    }

-- one thing, and another behind it to the end of a line
pub both_of_one : {X Y : Type 0} {t : X → List ℕ} {Is : X → Type 0} (u : Y → List ℕ) (Us : Y → Type 0) → ((y : Y) → ends_number (u y) ≡ true) → EndsOnce t Is →
    TextIsOfOne u Us → TextIsOfOne (both_texts t u) (BothAre Is Us)
both_of_one {X} {Y} {t} {Is} u Us ends form one p q ip iq e =
    let here : BeginsWith t Is (both_texts t u p) p.0 (u p.1) = record { whole = refl; lawful = ip.0; ends = ends p.1 } in
    let same = same_begin form here q.0 (u q.1) iq.0 (ends q.1) e in
    pair_is p q same.0 (one p.1 q.1 ip.1 iq.1 same.1)

-- a thing behind words
module _ {X : Type 0} (t : X → List ℕ) (Is : X → Type 0) (words : List ℕ) (text : List ℕ) where
  pub behind_none_words : ((rest : List ℕ) → text ≢ words ++ rest) → BeginsWithNone (λ x. words ++ t x) Is text
  behind_none_words none x rest b = none (t x ++ rest) (b.whole ∙ append_assoc words (t x) rest)

  thing_behind : (after : List ℕ) (x : X) (rest : List ℕ) → text ≡ words ++ after → BeginsWith (λ y. words ++ t y) Is text x rest → BeginsWith t Is after x rest
  thing_behind after x rest e b = search (rules, append_cancel_left, append_assoc)

  pub behind_read : (after : List ℕ) (r : Option (X × Bor (List ℕ))) → text ≡ words ++ after →
      MatchOption r (BeginsWithNone t Is after) (λ x. BeginsWith t Is after x.0 x.1.now) → MatchOption r (BeginsWithNone (λ x. words ++ t x) Is text)
      (λ x. BeginsWith (λ y. words ++ t y) Is text x.0 x.1.now)
  behind_read after None e none = λ x rest b. none x rest (thing_behind after x rest e b)
  behind_read after (Some x) e some = search (rules, append_assoc)

pub behind_once : {X : Type 0} {t : X → List ℕ} {Is : X → Type 0} (words : List ℕ) → EndsOnce t Is → EndsOnce (λ x. words ++ t x) Is
behind_once {X} {t} {Is} words form =
    record {
      once = λ text x y r s bx by.
          let e : text ≡ words ++ (t x ++ r) = bx.whole ∙ append_assoc words (t x) r in
          form.once (t x ++ r) x y r s (thing_behind t Is words text (t x ++ r) x r e bx) (thing_behind t Is words text (t x ++ r) y s e by);
    }

-- numbers
pub decimal_within : {Is : ℕ → Type 0} → ((n : ℕ) → Is n → n < 2 ^ 128) → EndsOnce decimal Is
decimal_within {Is} small =
    record {
      once = λ text x y r s bx by.
          let wx : x < 2 ^ 128 = small x bx.lawful in
          let wy : y < 2 ^ 128 = small y by.lawful in
          let same : decimal x ++ r ≡ decimal y ++ s = sym bx.whole ∙ by.whole in
          let parts = digits_unique (decimal x) (decimal y) r s (decimal_digits x wx) (decimal_digits y wy) bx.ends by.ends same in
          (sym (decimal_value x wx) ∙ ap value_of parts.0 ∙ decimal_value y wy, parts.1);
    }

pub decimal_once : (most : ℕ) → most < 2 ^ 128 → EndsOnce decimal (λ n. n ≤ most)
decimal_once most small = decimal_within (λ n is. omega (arith, is))

-- a number behind words
pub numbered_within : {Is : ℕ → Type 0} (words : List ℕ) → ((n : ℕ) → Is n → n < 2 ^ 128) → EndsOnce (numbered words) Is
unfolding numbered
numbered_within words small = behind_once words (decimal_within small)

pub numbered_once : (words : List ℕ) (most : ℕ) → most < 2 ^ 128 → EndsOnce (numbered words) (λ n. n ≤ most)
numbered_once words most small = numbered_within words (λ n is. omega (arith, is))

pub spaced_apart : StandsApart spaced
unfolding numbered
spaced_apart = record { apart = λ n rest ends. refl }

pub spaced_ends : (n : ℕ) → ends_number (spaced n) ≡ true
unfolding numbered
spaced_ends n = refl

-- two numbers behind words
pub pair_once : (words : List ℕ) (most other : ℕ) → most < 2 ^ 128 → other < 2 ^ 128 → EndsOnce (both_texts (numbered words) spaced)
    (BothAre (λ n. n ≤ most) (λ n. n ≤ other))
pair_once words most other small small_too = both_once spaced_apart (numbered_once words most small) (numbered_once _ other small_too)

-- numbers below 2^64
pub numbered_below : (words : List ℕ) → TextIsOfOne (numbered words) (λ n. n < 2 ^ 64)
numbered_below words = of_one (numbered_within words (λ n is. omega (arith, is)))
