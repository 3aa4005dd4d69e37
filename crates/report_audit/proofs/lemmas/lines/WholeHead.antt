-- The head of a report, line by line.
use Rattle.std.proofs.Common.{◌≡◌, ℕ, ◌<◌, ◌^◌, true, List, ◌∷◌, ◌++◌, codes, refl, sym, ◌∙◌, subst, arith, Bool, [], ap, rules, ◌+◌, get_or, length, inl, inr}
use Rattle.report_audit.proofs.Common.{
  numbered,
  HeadLine,
  HasForm,
  FitsLine,
  is_one_line,
  AreLawful,
  settings_text,
  AreSettings,
  sizes_text,
  AreSizes,
  SettingsText,
  BothAre,
  and_parts,
  decimal_digit,
  list_all,
  settings_line,
  AreSettingsOf,
  told_of,
  Settings,
  and_from,
  head_text,
  lines_text,
  HeadFails,
  LinesFail,
  head_lines,
  sizes_of,
  IsFirstLine,
  HeadFault,
  LinesThen,
  told_lines,
  HasHead,
}
use Rattle.report_audit.specs.declared.lines.head_fault.HeadFault.TheVariants.{Head}
use Rattle.report_audit.proofs.lemmas.lines.HeadLemmas.{settings_of_one, Numbers, fields_text, numbers_of, settings_fields, settings_words}
use Rattle.report_audit.proofs.lemmas.lines.ReadingLemmas.{EndsOnce, StandsApart, TextIsOfOne, both_once, numbered_within, of_one}
use Rattle.std.proofs.Props.{props}
use Rattle.std.proofs.lemmas.Bool.Decides.{nat_tests}
use Rattle.report_audit.proofs.lemmas.lines.OneBlock.{append_one_line, numbered_one_line}
use Rattle.rider_limits.specs.Range.{AreInRange}
use Rattle.rider_limits.specs.declared.settings.Mode.{Mode}
use Rattle.rider_limits.specs.declared.settings.TimesWay.{TimesWay}
use Rattle.report_audit.specs.lines.Head.{BeginsWithHead}
use Rattle.report_audit.proofs.lemmas.lines.LineLemmas.{first_once, said_behind, line_no_fault, line_more}
use Rattle.road_network.specs.Roads.{Roads}

-- a line of a network is of one pair of sizes
arcs_apart : StandsApart (numbered (codes " arcs="))
unfolding numbered
arcs_apart = record { apart = λ n rest ends. refl }

pub sizes_of_one : TextIsOfOne sizes_text (BothAre (λ n. n < 2 ^ 64) (λ n. n < 2 ^ 64))
sizes_of_one =
    let below : (words : List ℕ) → EndsOnce (numbered words) (λ n. n < 2 ^ 64) = λ words. numbered_within words (λ n is. omega (arith, is)) in
    of_one (both_once arcs_apart (below (codes "network nodes=")) (below (codes " arcs=")))

-- lawful numbers are below 2^32
pub lawful_short : (s : SettingsText) → AreLawful s → AreSettings s
lawful_short s is = grind arith

-- what a line tells of settings is lawful
pub told_lawful : (s : Settings) → AreLawful (told_of s)
told_lawful s = let r = s.in_range in grind arith

-- a line of settings has no line feed
fields_line : (ws : List (List ℕ)) (ns : Numbers ws) (dwell : ℕ) → list_all is_one_line ws ≡ true → is_one_line (fields_text ws ns dwell) ≡ true
fields_line [] ns dwell one = grind (arith, nat_tests, numbered_one_line (codes " dwell=") dwell refl)
fields_line (w ∷ ws) ns dwell one = search (rules, and_parts, append_one_line, fields_text, numbered_one_line, (fields_line ws ns.1 dwell))

pub settings_one_line : (s : SettingsText) → is_one_line (settings_text s) ≡ true
settings_one_line s = ap is_one_line (settings_fields s) ∙ fields_line settings_words (numbers_of s) s.dwell refl

-- the line of settings whose report prints the trees
pub settings_line_is : (s : Settings) → s.proof ≡ true → settings_line s ≡ settings_text (told_of s)
unfolding numbered
settings_line_is s on = grind (arith, nat_tests, decimal_digit 1)

-- settings by their fields
abbrev Fields : Type 0
Fields = Mode × TimesWay × Bool × ℕ × SettingsText

abbrev InRange : Fields → Type 0
InRange f = AreInRange f.4.wait f.4.delay f.4.trip f.4.penalty f.4.budget f.4.pairs f.3 f.4.dwell

abbrev fields_of : Settings → Fields
fields_of s = (s.mode, s.times, s.proof, s.workers, told_of s)

abbrev settings_from : (f : Fields) → InRange f → Settings
settings_from f r = search rules

same_from : (f g : Fields) → f ≡ g → (p : InRange f) (q : InRange g) → settings_from f p ≡ settings_from g q
same_from f g e p =
    let here : (q : InRange f) → settings_from f p ≡ settings_from f q = λ q. let same : p ≡ q = Prim.hlevel props in ap (settings_from f) same in
    subst (λ (x : Fields). (q : InRange x) → settings_from f p ≡ settings_from x q) e here

pub same_settings : (count : ℕ) (s t : Settings) → AreSettingsOf count s → AreSettingsOf count t → told_of s ≡ told_of t → s ≡ t
same_settings count s t is it told =
    let e : fields_of s ≡ fields_of t = grind (
      arith,
      is.mode ∙ sym it.mode,
      is.times ∙ sym it.times,
      is.proof ∙ sym it.proof,
      is.workers ∙
          sym it.workers,
      told,
    ) in
    same_from (fields_of s) (fields_of t) e s.in_range t.in_range

-- lines at the beginning of a text
lines_then : (ls : List (List ℕ)) (rest : List ℕ) → list_all (λ l. is_one_line l) ls ≡ true → LinesThen ls (lines_text ls ++ rest) rest
unfolding lines_text
lines_then [] rest one = refl
lines_then (l ∷ ls) rest one = search (rules, and_parts, line_more, (lines_then ls rest))

lines_whole : (ls : List (List ℕ)) (text rest : List ℕ) → LinesThen ls text rest → text ≡ lines_text ls ++ rest
unfolding lines_text
lines_whole [] text rest is = is
lines_whole (l ∷ ls) text rest (after, is, more) = is.whole ∙ ap (λ r. l ++ 10 ∷ r) (lines_whole ls after rest more) ∙ sym (line_more l (lines_text ls) rest)

lines_once : (ls ms : List (List ℕ)) (text r s : List ℕ) → length ls ≡ length ms → LinesThen ls text r → LinesThen ms text s → (ls ≡ ms) × (r ≡ s)
lines_once [] [] text r s long is has = (refl, sym is ∙ has)
lines_once (l ∷ ls) (m ∷ ms) text r s long (after, is, more) (behind, has, others) = grind
    (arith, first_once text l m after behind is has, lines_once ls ms after r s)
lines_once _ _ text r s long is has = absurd (omega (arith, long))

-- what is said of the first line, and of those behind it
pub line_then : {text line rest l : List ℕ} → (text ≡ line ++ 10 ∷ rest) × (is_one_line line ≡ true) → line ≡ l → IsFirstLine text l rest
line_then {text} {line} {rest} first e = subst (λ x. IsFirstLine text x rest) e (record { whole = first.0; one = first.1 })

pub head_fails : {text : List ℕ} (line rest : List ℕ) (form : HeadLine) (forms : List HeadLine) (number : ℕ) →
    (text ≡ line ++ 10 ∷ rest) × (is_one_line line ≡ true) → HasForm form line → (FitsLine form line → ⊥) → LinesFail (form ∷ forms) number text (Head number)
head_fails line rest form forms number first has other = inl (refl, line, rest, line_then first refl, has, other)

-- each line has its form, and fits
abbrev AllFit : List HeadLine → List (List ℕ) → Type 0
AllFit [] ls = Unit {0}
AllFit (form ∷ forms) [] = ⊥
AllFit (form ∷ forms) (l ∷ ls) = HasForm form l × FitsLine form l × AllFit forms ls

no_fault : (forms : List HeadLine) (ls : List (List ℕ)) (number : ℕ) (text rest : List ℕ) (fault : HeadFault) → AllFit forms ls → LinesThen ls text rest →
    LinesFail forms number text fault → ⊥
no_fault [] ls number text rest fault fit is fails = fails
no_fault (form ∷ forms) [] number text rest fault fit is fails = fit
no_fault (form ∷ forms) (l ∷ ls) number text rest fault (has_form, fits, more) (after, is, others) (inl fails) =
    line_no_fault form number text fault fails l after is has_form fits
no_fault (form ∷ forms) (l ∷ ls) number text rest fault (has_form, fits, more) (after, is, others) (inr (behind, (line, has, passes), fails)) =
    no_fault forms ls (number + 1) after rest fault more others (said_behind (λ t. LinesFail forms (number + 1) t fault) text l line after behind is has fails)

module _ (workers : ℕ) (roads : Roads) (vehicles : ℕ) (text : List ℕ) (few : AreSizes (sizes_of roads)) (few_vehicles : vehicles < 2 ^ 64) where
  one_lines : (told : SettingsText) → list_all (λ l. is_one_line l) (told_lines told (sizes_of roads) vehicles) ≡ true
  one_lines told = search (rules, and_from, settings_one_line, append_one_line, numbered_one_line)

  -- the lines of a text that begins with the head
  head_then : (s : Settings) (rest : List ℕ) → BeginsWithHead workers roads vehicles text s rest →
      LinesThen (told_lines (told_of s) (sizes_of roads) vehicles) text rest
  unfolding head_text
  head_then s rest h =
      let ls = told_lines (told_of s) (sizes_of roads) vehicles in
      let line : settings_line s ≡ settings_text (told_of s) = settings_line_is s h.settings.proof in
      let whole : text ≡ lines_text ls ++ rest =
      h.whole ∙ ap (λ (l : List ℕ). lines_text (codes "ridepool report 1" ∷ l ∷ sizes_text (sizes_of roads) ∷ numbered (codes "fleet vehicles=") vehicles ∷ [])
      ++ rest) line
      in
      subst (λ t. LinesThen ls t rest) (sym whole) (lines_then ls rest (one_lines (told_of s)))

  -- where a line of the head fails, no head is read
  pub no_head : (fault : HeadFault) → HeadFails roads vehicles text fault → (s : Settings) (rest : List ℕ) → BeginsWithHead workers roads vehicles text s rest →
      ⊥
  no_head fault fails s rest h =
      let told = told_of s in
      let lawful = told_lawful s in
      let short = lawful_short told lawful in
      no_fault (head_lines (sizes_of roads) vehicles) (told_lines told (sizes_of roads) vehicles) 1 text rest fault
      (refl, refl, ((told, short, refl), (told, short, lawful, refl), ((sizes_of roads, few, refl), refl, ((vehicles, few_vehicles, refl), refl, tt))))
      (head_then s rest h) fails

  module _ (told : SettingsText) (end : List ℕ) (has : HasHead told (sizes_of roads) vehicles text end) (read : Settings) (of : AreSettingsOf workers read)
      (numbers : told_of read ≡ told) where
    -- a text has one head
    pub head_only : (s : Settings) (rest : List ℕ) → BeginsWithHead workers roads vehicles text s rest → (s ≡ read) × (rest ≡ end)
    head_only s rest h =
        let same = lines_once (told_lines (told_of s) (sizes_of roads) vehicles) (told_lines told (sizes_of roads) vehicles) text rest end refl
        (head_then s rest h) has.0 in
        let second : List (List ℕ) → List ℕ = λ ls. get_or ls 1 [] in
        let line : settings_text (told_of s) ≡ settings_text told = ap second same.0 in (
          same_settings workers s read h.settings of (settings_of_one (told_of s) told (lawful_short (told_of s) (told_lawful s)) has.1 line ∙ sym numbers),
          same.1,
        )

    -- which is read
    pub head_read : BeginsWithHead workers roads vehicles text read end
    unfolding head_text
    head_read =
        let line : settings_text told ≡ settings_line read = ap settings_text (sym numbers) ∙ sym (settings_line_is read of.proof) in
        record {
          whole =
              lines_whole (told_lines told (sizes_of roads) vehicles) text end has.0
              ∙ ap (λ (l : List ℕ). lines_text (codes "ridepool report 1" ∷ l ∷ sizes_text (sizes_of roads) ∷ numbered (codes "fleet vehicles=") vehicles ∷ [])
              ++ end) line;
          settings = of;
        }
