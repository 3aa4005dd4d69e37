-- Stops, one behind the other, and a late vehicle's order.
use Rattle.std.proofs.Common.{◌≡◌, ℕ, ◌≤◌, Bool, true, false, if◌then◌else◌, codes, List, ◌++◌, refl, sym, ap, ◌∙◌, arith, rules, ◌≢◌, Option, None, Some}
use Rattle.report_audit.proofs.Common.{
  stop_text,
  numbered,
  IsId,
  BeginsWith,
  BeginsWithNone,
  both_texts,
  BothAre,
  FitsStop,
  visit_text,
  IsVisit,
  PlannedStop,
  spaced,
  ends_number,
  order_text,
  IsOrder,
}
use Rattle.report_audit.proofs.lines.ListLemmas.{IsItem, many_end}
use Rattle.report_audit.proofs.lemmas.lines.ReadingLemmas.{EndsOnce, StandsApart, both_once, numbered_once, same_begin}
use Rattle.std.specs.List.{flat_map, All}

pick_is_no_drop : (x y : ℕ) (r s : List ℕ) → numbered (codes " pick:") x ++ r ≡ numbered (codes " drop:") y ++ s → ⊥
unfolding numbered
pick_is_no_drop x y r s e = grind arith

pub visit_once : EndsOnce visit_text IsVisit
visit_once = record { once = once }
  where
    alike : (pick : Bool) (text : List ℕ) (x y : ℕ) (r s : List ℕ) → BeginsWith visit_text IsVisit text (pick, x) r →
        BeginsWith visit_text IsVisit text (pick, y) s → ◌≡◌ {A = Bool × ℕ} (pick, x) (pick, y) × (r ≡ s)
    alike pick text x y r s bx by =
        let form = numbered_once (if pick then codes " pick:" else codes " drop:") 1000000000 (omega arith) in
        let same = form.once text x y r s (record { whole = bx.whole; lawful = bx.lawful; ends = bx.ends })
        (record { whole = by.whole; lawful = by.lawful; ends = by.ends }) in
        (ap (λ n. (pick, n)) same.0, same.1)

    once : (text : List ℕ) (x y : Bool × ℕ) (r s : List ℕ) → BeginsWith visit_text IsVisit text x r → BeginsWith visit_text IsVisit text y s → (x ≡ y) × (r ≡ s)
    once text (true, x) (true, y) r s bx by = alike true text x y r s bx by
    once text (false, x) (false, y) r s bx by = alike false text x y r s bx by
    once text (true, x) (false, y) r s bx by = absurd (pick_is_no_drop x y r s (sym bx.whole ∙ by.whole))
    once text (false, x) (true, y) r s bx by = absurd (pick_is_no_drop y x s r (sym by.whole ∙ bx.whole))

pub mark_apart : StandsApart (numbered (codes "@")) × StandsApart (numbered (codes ":"))
unfolding numbered
mark_apart = (record { apart = λ n rest ends. refl }, record { apart = λ n rest ends. refl })

-- whom and where
abbrev place_text : (Bool × ℕ) × ℕ → List ℕ
place_text = both_texts visit_text (numbered (codes "@"))

abbrev IsPlaced : (Bool × ℕ) × ℕ → Type 0
IsPlaced = BothAre IsVisit IsId

-- and when
abbrev parts_text : ((Bool × ℕ) × ℕ) × ℕ → List ℕ
parts_text = both_texts place_text (numbered (codes ":"))

abbrev AreParts : ((Bool × ℕ) × ℕ) × ℕ → Type 0
AreParts = BothAre IsPlaced (λ n. n ≤ 18446744073709551615)

abbrev parts_of : PlannedStop → ((Bool × ℕ) × ℕ) × ℕ
parts_of stop = (((stop.pick, stop.rider), stop.node), stop.second)

stop_begins : (text : List ℕ) (stop : PlannedStop) (rest : List ℕ) → BeginsWith stop_text FitsStop text stop rest →
    BeginsWith parts_text AreParts text (parts_of stop) rest
stop_begins text stop rest b = search rules

pub stop_none : (text : List ℕ) → BeginsWithNone parts_text AreParts text → BeginsWithNone stop_text FitsStop text
stop_none text none stop rest b = none (parts_of stop) rest (stop_begins text stop rest b)

pub placed_once : EndsOnce place_text IsPlaced
placed_once = both_once mark_apart.0 visit_once (numbered_once (codes "@") 1000000000 (omega arith))

stop_once : EndsOnce stop_text FitsStop
stop_once =
    record {
      once = λ text x y r s bx by.
          let same = (both_once mark_apart.1 placed_once (numbered_once (codes ":") 18446744073709551615 (omega arith))).once text (parts_of x) (parts_of y) r s
          (stop_begins text x r bx) (stop_begins text y s by) in
          (grind (arith, same.0), same.1);
    }

pub stop_item : IsItem stop_text FitsStop
unfolding numbered
stop_item = search (rules, stop_once)

pub order_no_delay : {text : List ℕ} → text ≢ codes " none" → BeginsWithNone spaced (λ n. n ≤ 18446744073709551615) text →
    (order : ℕ × Option (List PlannedStop)) → IsOrder order → text ≢ order_text order
order_no_delay other none (delay, None) is e = other e
order_no_delay other none (delay, Some stops) is e = none delay (flat_map stop_text stops)
    (record { whole = e; lawful = omega (arith, is.0); ends = many_end stop_item stops })

pub order_no_stops : {text : List ℕ} → text ≢ codes " none" → {given : ℕ} {after : List ℕ} →
    BeginsWith spaced (λ n. n ≤ 18446744073709551615) text given after → ((stops : List PlannedStop) → All FitsStop stops → after ≢ flat_map stop_text stops) →
    (order : ℕ × Option (List PlannedStop)) → IsOrder order → text ≢ order_text order
order_no_stops other b none (delay, None) is e = other e
order_no_stops other b none (delay, Some stops) is e =
    none stops is.1 (same_begin (numbered_once (codes " ") 18446744073709551615 (omega arith)) b delay (flat_map stop_text stops) (omega (arith, is.0))
    (many_end stop_item stops) e).1

pub order_ends : (order : ℕ × Option (List PlannedStop)) → ends_number (order_text order) ≡ true
unfolding numbered
order_ends (delay, None) = refl
order_ends (delay, Some stops) = refl
