-- The line of the settings.
use Rattle.std.proofs.Common.{
  ◌≡◌,
  ◌≢◌,
  ℕ,
  zero,
  suc,
  Bool,
  true,
  false,
  if◌then◌else◌,
  nat_eq,
  length,
  codes,
  List,
  [],
  ◌∷◌,
  ◌++◌,
  refl,
  sym,
  ap,
  ◌∙◌,
  append_assoc,
  arith,
  rules,
}
use Rattle.std.proofs.lemmas.Bool.Decides.{nat_tests}
use Rattle.report_audit.proofs.Common.{
  is_ascii_digit,
  numbered,
  IsShortNumber,
  settings_text,
  AreSettings,
  BeginsWith,
  BeginsWithNone,
  ends_number,
  SettingsText,
  dwell_text,
}
use Rattle.report_audit.proofs.lemmas.lines.ReadingLemmas.{EndsOnce, TextIsOfOne, numbered_once, of_one, pair_is}

short_once : (words : List ℕ) → EndsOnce (numbered words) IsShortNumber
short_once words = numbered_once words 4294967295 (omega arith)

pub arcs_end : (n : ℕ) → ends_number (numbered (codes " arcs=") n) ≡ true
unfolding numbered
arcs_end n = refl

dwell_ends : (dwell : ℕ) → ends_number (dwell_text dwell) ≡ true
unfolding numbered
dwell_ends dwell = grind (arith, nat_tests)

dwell_told : (dwell : ℕ) → dwell ≢ 0 → dwell_text dwell ≡ numbered (codes " dwell=") dwell
dwell_told dwell some = grind (arith, nat_tests)

dwell_number : TextIsOfOne (numbered (codes " dwell=")) IsShortNumber
dwell_number = of_one (short_once (codes " dwell="))

-- no dwell is told as 0
pub dwell_not_zero : (text : List ℕ) (told : ℕ) → nat_eq (length text) 0 ≡ false → told ≡ 0 → text ≡ numbered (codes " dwell=") told → (dwell : ℕ) →
    IsShortNumber dwell → text ≢ dwell_text dwell
dwell_not_zero text told some zero_told is zero within e = search rules
dwell_not_zero text told some zero_told is (suc dwell) within e = search (rules, dwell_text, dwell_told, dwell_number)

dwell_of_one : (a b : ℕ) → IsShortNumber a → IsShortNumber b → dwell_text a ≡ dwell_text b → a ≡ b
unfolding numbered
dwell_of_one a b ia ib e = grind (arith, nat_tests, dwell_number a b ia ib)

-- a number for each of the words
abbrev pub Numbers : List (List ℕ) → Type 0
Numbers [] = Unit {0}
Numbers (w ∷ ws) = ℕ × Numbers ws

abbrev pub AreShort : (ws : List (List ℕ)) → Numbers ws → Type 0
AreShort [] ns = Unit {0}
AreShort (w ∷ ws) ns = IsShortNumber ns.0 × AreShort ws ns.1

-- the numbers, each behind its words, and then the dwell
abbrev pub fields_text : (ws : List (List ℕ)) → Numbers ws → ℕ → List ℕ
fields_text [] ns dwell = dwell_text dwell
fields_text (w ∷ ws) ns dwell = numbered w ns.0 ++ fields_text ws ns.1 dwell

-- none of the words is empty, or begins with a digit
abbrev pub are_apart : List (List ℕ) → Bool
are_apart [] = true
are_apart ([] ∷ ws) = false
are_apart ((c ∷ cs) ∷ ws) = if is_ascii_digit c then false else are_apart ws

apart_behind : (w : List ℕ) (ws : List (List ℕ)) → are_apart (w ∷ ws) ≡ true → are_apart ws ≡ true
apart_behind [] ws apart = cc
apart_behind (c ∷ cs) ws apart = grind (arith, nat_tests)

fields_end : (ws : List (List ℕ)) (ns : Numbers ws) (dwell : ℕ) → are_apart ws ≡ true → ends_number (fields_text ws ns dwell) ≡ true
unfolding numbered
fields_end [] ns dwell apart = dwell_ends dwell
fields_end ([] ∷ ws) ns dwell apart = cc
fields_end ((c ∷ cs) ∷ ws) ns dwell apart = grind (arith, nat_tests)

begins_field : (w : List ℕ) (ws : List (List ℕ)) (text : List ℕ) (ns : Numbers (w ∷ ws)) (dwell : ℕ) → are_apart (w ∷ ws) ≡ true → AreShort (w ∷ ws) ns →
    text ≡ fields_text (w ∷ ws) ns dwell → BeginsWith (numbered w) IsShortNumber text ns.0 (fields_text ws ns.1 dwell)
begins_field w ws text ns dwell apart short e = record { whole = e; lawful = short.0; ends = fields_end ws ns.1 dwell (apart_behind w ws apart) }

-- a text is that of no such numbers
pub record IsNoFields (ws : List (List ℕ)) (text : List ℕ) : Type 0 where
  pub never : are_apart ws ≡ true → (ns : Numbers ws) (dwell : ℕ) → AreShort ws ns → IsShortNumber dwell → text ≢ fields_text ws ns dwell

pub none_here : {w : List ℕ} {ws : List (List ℕ)} {text : List ℕ} → BeginsWithNone (numbered w) IsShortNumber text → IsNoFields (w ∷ ws) text
none_here {w} {ws} {text} none = search (rules, begins_field)

pub none_behind : {w : List ℕ} {ws : List (List ℕ)} {text : List ℕ} {n : ℕ} {after : List ℕ} → BeginsWith (numbered w) IsShortNumber text n after →
    IsNoFields ws after → IsNoFields (w ∷ ws) text
none_behind {w} {ws} {text} {n} {after} b none =
    record {
      never = λ apart ns dwell short is e.
          none.never (apart_behind w ws apart) ns.1 dwell short.1 is ((short_once w).once text n ns.0 after (fields_text ws ns.1 dwell) b
          (begins_field w ws text ns dwell apart short e)).1;
    }

pub field_behind : (w : List ℕ) {Is : ℕ → Type 0} {text after rest : List ℕ} {n : ℕ} → BeginsWith (numbered w) Is text n after → after ≡ rest →
    text ≡ numbered w n ++ rest
field_behind w {Is} {text} {after} {rest} {n} b e = b.whole ∙ ap (λ r. numbered w n ++ r) e

-- the same text is that of the same numbers
same_fields : (ws : List (List ℕ)) (ns ms : Numbers ws) (d e : ℕ) → are_apart ws ≡ true → AreShort ws ns → AreShort ws ms → IsShortNumber d → IsShortNumber e →
    fields_text ws ns d ≡ fields_text ws ms e → (ns ≡ ms) × (d ≡ e)
same_fields [] ns ms d e apart sn sm sd se same = (refl, dwell_of_one d e sd se same)
same_fields (w ∷ ws) ns ms d e apart sn sm sd se same =
    let text = fields_text (w ∷ ws) ns d in
    let p = (short_once w).once text ns.0 ms.0 (fields_text ws ns.1 d) (fields_text ws ms.1 e) (begins_field w ws text ns d apart sn refl)
    (begins_field w ws text ms e apart sm same) in
    let q = same_fields ws ns.1 ms.1 d e (apart_behind w ws apart) sn.1 sm.1 sd se p.1 in
    (pair_is ns ms p.0 q.0, q.1)

-- the words of a line of settings
abbrev pub settings_words : List (List ℕ)
settings_words =
    codes "settings wait=" ∷ codes " delay=" ∷ codes " trip=" ∷ codes " penalty=" ∷ codes " budget=" ∷ codes " pairs=" ∷ codes " proof=" ∷ []

abbrev pub numbers_of : SettingsText → Numbers settings_words
numbers_of s = (s.wait, (s.delay, (s.trip, (s.penalty, (s.budget, (s.pairs, (s.proof, tt)))))))

short_numbers : (s : SettingsText) → AreSettings s → AreShort settings_words (numbers_of s)
short_numbers s is = (is.wait, (is.delay, (is.trip, (is.penalty, (is.budget, (is.pairs, (is.proof, tt)))))))

pub settings_fields : (s : SettingsText) → settings_text s ≡ fields_text settings_words (numbers_of s) s.dwell
settings_fields s = search (rules, append_assoc)

pub no_settings_line : {line : List ℕ} → IsNoFields settings_words line → (s : SettingsText) → AreSettings s → line ≢ settings_text s
no_settings_line none s is e = none.never refl (numbers_of s) s.dwell (short_numbers s is) is.dwell (e ∙ settings_fields s)

-- lines of settings of the same text say the same
pub settings_of_one : (a b : SettingsText) → AreSettings a → AreSettings b → settings_text a ≡ settings_text b → a ≡ b
settings_of_one a b ia ib e =
    let same =
    same_fields settings_words (numbers_of a) (numbers_of b) a.dwell b.dwell refl (short_numbers a ia) (short_numbers b ib) ia.dwell ib.dwell
    (sym (settings_fields a) ∙ e ∙ settings_fields b)
    in
    grind (arith, same.0, same.1)
