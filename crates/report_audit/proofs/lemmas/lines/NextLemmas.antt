-- A line is of one kind.
use Rattle.std.proofs.Common.{◌≡◌, ◌≢◌, ℕ, ◌≤◌, codes, List, [], ◌++◌, refl, sym, ap, ◌∙◌, append_assoc, false, ◌∷◌, arith, rules}
use Rattle.report_audit.proofs.Common.{is_ascii_digit, numbered, IsNextLine}
use Rattle.report_audit.specs.declared.lines.next.NextLine.{NextLine}
use Rattle.report_audit.specs.declared.lines.next.NextLine.TheVariants.{Round, Done, Entry as EntryOf}
use Rattle.report_audit.proofs.lines.EntryLineLemmas.{same_lane, entry_begins}
use Rattle.report_audit.proofs.lemmas.lines.NumeralLemmas.{no_number}
use Rattle.report_audit.proofs.lemmas.lines.ReadingLemmas.{numbered_below}

pub no_line : (line : List ℕ) → ((n : ℕ) → n ≤ 4294967295 → line ≢ numbered (codes "round ") n) →
    ((n : ℕ) → n ≤ 18446744073709551615 → line ≢ numbered (codes "done ") n) → ((lane : ℕ) → IsNextLine (EntryOf lane) line → ⊥) → (x : NextLine) →
    IsNextLine x line → ⊥
no_line line round done entry (Round n) is = round n (omega (arith, is.0)) is.1
no_line line round done entry (Done n) is = done n (omega (arith, is.0)) is.1
no_line line round done entry (EntryOf lane) is = entry lane is

-- lines of different kinds
round_is_no_done : (m n : ℕ) → numbered (codes "round ") m ≡ numbered (codes "done ") n → ⊥
unfolding numbered
round_is_no_done m n e = grind arith

-- no entry's line begins with words
no_entry_behind : (c : ℕ) (cs line after : List ℕ) (lane : ℕ) → is_ascii_digit c ≡ false → IsNextLine (EntryOf lane) line → c ∷ cs ≡ line ++ after → ⊥
no_entry_behind c cs line after lane other is e = search (rules, entry_begins, no_number, append_assoc)

pub no_entry_round : (n : ℕ) (rest line after : List ℕ) (lane : ℕ) → IsNextLine (EntryOf lane) line → numbered (codes "round ") n ++ rest ≡ line ++ after → ⊥
unfolding numbered
no_entry_round n rest line after lane is e = no_entry_behind 114 _ line after lane refl is e

pub no_entry_done : (n : ℕ) (rest line after : List ℕ) (lane : ℕ) → IsNextLine (EntryOf lane) line → numbered (codes "done ") n ++ rest ≡ line ++ after → ⊥
unfolding numbered
no_entry_done n rest line after lane is e = no_entry_behind 100 _ line after lane refl is e

pub one_kind : (x y : NextLine) (line : List ℕ) → IsNextLine x line → IsNextLine y line → x ≡ y
one_kind (Round m) (Round n) line ix iy = ap Round (numbered_below (codes "round ") m n (omega (arith, ix.0)) (omega (arith, iy.0)) (sym ix.1 ∙ iy.1))
one_kind (Round m) (Done n) line ix iy = absurd (round_is_no_done m n (sym ix.1 ∙ iy.1))
one_kind (Round m) (EntryOf lane) line ix iy = absurd (no_entry_round m [] line [] lane iy (ap (λ l. l ++ []) (sym ix.1)))
one_kind (Done m) (Round n) line ix iy = absurd (round_is_no_done n m (sym iy.1 ∙ ix.1))
one_kind (Done m) (Done n) line ix iy = ap Done (numbered_below (codes "done ") m n ix.0 iy.0 (sym ix.1 ∙ iy.1))
one_kind (Done m) (EntryOf lane) line ix iy = absurd (no_entry_done m [] line [] lane iy (ap (λ l. l ++ []) (sym ix.1)))
one_kind (EntryOf lane) (Round n) line ix iy = absurd (no_entry_round n [] line [] lane ix (ap (λ l. l ++ []) (sym iy.1)))
one_kind (EntryOf lane) (Done n) line ix iy = absurd (no_entry_done n [] line [] lane ix (ap (λ l. l ++ []) (sym iy.1)))
one_kind (EntryOf lane) (EntryOf other) line ix iy = ap EntryOf (same_lane line lane other ix iy)
