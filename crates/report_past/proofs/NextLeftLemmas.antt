-- The line that comes first of what is left of a run.
use Rattle.std.proofs.Common.{◌≡◌, ℕ, ◌<◌, ◌^◌, Bool, true, List, [], ◌∷◌, ◌++◌, length, codes}
use Rattle.std.proofs.Common.{Option, Some, None, IfSome, refl, sym, ap, subst, ◌∙◌, append_assoc, append-nil, length-append, arith}
use Rattle.dispatch_report.specs.Block.{block_lines}
use Rattle.dispatch_report.specs.Entry.{entry_line}
unfoldable use Rattle.dispatch_report.specs.Lines.{lines_text}
unfoldable use Rattle.dispatch_report.specs.Round.{end_text}
use Rattle.dispatch_report.specs.Round.{round_line}
use Rattle.dispatch_report.specs.Words.{numbered}
use Rattle.report_audit.specs.declared.lines.next.NextLine.{NextLine}
use Rattle.report_audit.specs.declared.lines.next.NextLine.TheVariants.{Round, Done, Entry as EntryOf}
use Rattle.report_audit.specs.lines.Cut.{is_one_line}
use Rattle.report_audit.specs.lines.Next.{IsNextLine}
use Rattle.report_past.proofs.CutLemmas.{cut_once, one_text}
use Rattle.report_past.proofs.WholeLeftLemmas.{Ends, ends_first, ends_one}
use Rattle.report_past.specs.Past.{dropped_text}
use Rattle.report_past.specs.Told.{close_of}
use Rattle.report_past.specs.work.Left.{IsLeft}
use Rattle.report_past.specs.Whole.{after_line}
use Rattle.report_past.specs.work.Reading.{StandsIn, start_text}
use Rattle.request_book.specs.values.Batch.{Batch}
use Rattle.request_book.specs.declared.values.state.State.{State}
use Rattle.rider_limits.specs.declared.settings.Settings.{Settings}
use Rattle.road_network.specs.Roads.{Roads}

-- the line isn't that of a round
abbrev pub NotRound : NextLine → Type 0
NotRound (Round n) = ⊥
NotRound _ = Unit {0}

abbrev number_of : NextLine → ℕ
number_of (Round n) = n
number_of _ = 0

pub round_text_of : (n : ℕ) (rest : List ℕ) → round_line n ++ rest ≡ numbered (codes "round ") n ++ 10 ∷ rest
round_text_of n rest = one_text (numbered (codes "round ") n) rest

pub done_text_of : (n : ℕ) → end_text n ≡ numbered (codes "done ") n ++ 10 ∷ []
unfolding end_text
done_text_of n = sym (append-nil (lines_text (numbered (codes "done ") n ∷ []))) ∙ one_text (numbered (codes "done ") n) []

no_line : (line after : List ℕ) → line ++ 10 ∷ after ≡ [] → ⊥
no_line line after none = omega (arith, ap length none, length-append line (10 ∷ after))

-- of what is left, the first line behind that of a round
pub record IsNextLeft (line after : List ℕ) : Type 0 where
  pub next : NextLine
  pub is : IsNextLine next line
  pub no_round : NotRound next
  pub ends : (n : ℕ) → next ≡ Done n → after ≡ []

pub named_round : (last : Option ℕ) (open_batch : Option Batch) (round : Option ℕ) (number : ℕ) → StandsIn last open_batch round number →
    IfSome round (λ n. n < 2 ^ 32)
named_round last open_batch None number stands = tt
named_round last open_batch (Some n) number stands = omega (arith, stands.0, stands.2)

front_none : (a b : List ℕ) → a ++ b ≡ [] → a ≡ []
front_none [] b none = refl
front_none (x ∷ a) b none = cc

not_done : (lane n : ℕ) (after : List ℕ) → EntryOf lane ≡ Done n → after ≡ []
not_done lane n after is = absurd (subst (λ (x : NextLine). is_entry x) is tt)
  where
    is_entry : NextLine → Type 0
    is_entry (EntryOf l) = Unit {0}
    is_entry _ = ⊥

module _ (one_line : (x : NextLine) (line : List ℕ) → IsNextLine x line → is_one_line line ≡ true)
    (one_kind : (x y : NextLine) (line : List ℕ) → IsNextLine x line → IsNextLine y line → x ≡ y) where
  pub round_one : (n : ℕ) → n < 2 ^ 32 → is_one_line (numbered (codes "round ") n) ≡ true
  round_one n low = one_line (Round n) (numbered (codes "round ") n) (low, refl)

  round_other : (n : ℕ) (x : NextLine) (l : List ℕ) → n < 2 ^ 32 → numbered (codes "round ") n ≡ l → IsNextLine x l → NotRound x → ⊥
  round_other n x l low is next other = subst NotRound (one_kind x (Round n) l next (low, sym is)) other

  -- of whole lines none is cut behind the line of a round
  pub none_cut : (inside : Bool) (found : Option ℕ) (at : List ℕ) → IfSome found (λ n. n < 2 ^ 32) → Ends inside (start_text found ++ at) →
      is_one_line at ≡ true → at ≡ []
  none_cut inside None at low ends one = ends_one inside at ends one
  none_cut inside (Some n) at low ends one =
      let line = numbered (codes "round ") n in
      ends_one (after_line inside line) at (ends_first inside line at (round_one n low) (subst (Ends inside) (round_text_of n at) ends)) one

  pub start_same : (found round : Option ℕ) (line after l rest : List ℕ) (x : NextLine) → IfSome found (λ n. n < 2 ^ 32) → IfSome round (λ n. n < 2 ^ 32)
      → is_one_line line ≡ true → IsNextLine x l → NotRound x → (found ≡ None → (n : ℕ) → n < 2 ^ 32 → line ≡ numbered (codes "round ") n → ⊥)
      → start_text found ++ (line ++ 10 ∷ after) ≡ start_text round ++ (l ++ 10 ∷ rest) → (found ≡ round) × (line ≡ l) × (after ≡ rest)
  start_same None None line after l rest x low small one next other plain e =
      let same = cut_once line l after rest one (one_line x l next) e in
      (refl, same.0, same.1)
  start_same None (Some n) line after l rest x low small one next other plain e =
      absurd (plain refl n small (cut_once line (numbered (codes "round ") n) after (l ++ 10 ∷ rest) one (round_one n small)
      (e ∙ round_text_of n (l ++ 10 ∷ rest))).0)
  start_same (Some m) None line after l rest x low small one next other plain e =
      absurd (round_other m x l low (cut_once (numbered (codes "round ") m) l (line ++ 10 ∷ after) rest (round_one m low) (one_line x l next)
      (sym (round_text_of m (line ++ 10 ∷ after)) ∙ e)).0 next other)
  start_same (Some m) (Some n) line after l rest x low small one next other plain e =
      let same = cut_once (numbered (codes "round ") m) (numbered (codes "round ") n) (line ++ 10 ∷ after) (l ++ 10 ∷ rest) (round_one m low)
      (round_one n small)
      (sym (round_text_of m (line ++ 10 ∷ after)) ∙ e ∙ round_text_of n (l ++ 10 ∷ rest)) in
      let parts = cut_once line l after rest one (one_line x l next) same.1 in
      (ap (λ y. Some (number_of y)) (one_kind (Round m) (Round n) (numbered (codes "round ") m) (low, refl) (small, same.0)), parts.0, parts.1)

  pub start_none : (found round : Option ℕ) (line after : List ℕ) → IfSome found (λ n. n < 2 ^ 32) → IfSome round (λ n. n < 2 ^ 32)
      → is_one_line line ≡ true → (found ≡ None → (n : ℕ) → n < 2 ^ 32 → line ≡ numbered (codes "round ") n → ⊥)
      → start_text found ++ (line ++ 10 ∷ after) ≡ start_text round ++ [] → ⊥
  start_none None None line after low small one plain e = no_line line after e
  start_none None (Some n) line after low small one plain e =
      plain refl n small (cut_once line (numbered (codes "round ") n) after [] one (round_one n small) (e ∙ round_text_of n [])).0
  start_none (Some m) None line after low small one plain e =
      no_line (numbered (codes "round ") m) (line ++ 10 ∷ after) (sym (round_text_of m (line ++ 10 ∷ after)) ∙ e)
  start_none (Some m) (Some n) line after low small one plain e =
      no_line line after (cut_once (numbered (codes "round ") m) (numbered (codes "round ") n) (line ++ 10 ∷ after) [] (round_one m low) (round_one n small)
      (sym (round_text_of m (line ++ 10 ∷ after)) ∙ e ∙ round_text_of n [])).1

  module _ (settings : Settings) (roads : Roads) (found : Option ℕ) (line after more : List ℕ) (low : IfSome found (λ n. n < 2 ^ 32))
      (one : is_one_line line ≡ true) (plain : found ≡ None → (n : ℕ) → n < 2 ^ 32 → line ≡ numbered (codes "round ") n → ⊥) where
    joined_text : (start_text found ++ (line ++ 10 ∷ after)) ++ more ≡ start_text found ++ (line ++ 10 ∷ (after ++ more))
    joined_text = append_assoc (start_text found) (line ++ 10 ∷ after) more ∙ ap (λ t. start_text found ++ t) (append_assoc line (10 ∷ after) more)

    dropped_next : (round entries : Option ℕ) → IfSome round (λ n. n < 2 ^ 32) → IfSome entries (λ n. n < 2 ^ 64)
        → start_text found ++ (line ++ 10 ∷ (after ++ more)) ≡ dropped_text round entries → IsNextLeft line after
    dropped_next round None small few e = absurd (start_none found round line (after ++ more) low small one plain e)
    dropped_next round (Some k) small few e =
        let l = numbered (codes "done ") k in
        let same = start_same found round line (after ++ more) l [] (Done k) low small one (few, refl) tt plain
        (e ∙ ap (λ t. start_text round ++ t) (done_text_of k)) in
        record { next = Done k; is = (few, same.1); no_round = tt; ends = λ n _. front_none after more same.2 }

    entry_next : (lane : ℕ) (round : Option ℕ) (l rest : List ℕ) → IfSome round (λ n. n < 2 ^ 32) → IsNextLine (EntryOf lane) l
        → start_text found ++ (line ++ 10 ∷ (after ++ more)) ≡ start_text round ++ (l ++ 10 ∷ rest) → IsNextLeft line after
    entry_next lane round l rest small next e =
        let same = start_same found round line (after ++ more) l rest (EntryOf lane) low small one next tt plain e in
        record { next = EntryOf lane; is = subst (IsNextLine (EntryOf lane)) (sym same.1) next; no_round = tt; ends = λ n is. not_done lane n after is }

    pub next_left : (last : Option ℕ) (s : State) (p : ℕ) → IsLeft settings roads last s p ((start_text found ++ (line ++ 10 ∷ after)) ++ more) →
        IsNextLeft line after
    next_left last s p left = by last s p ((start_text found ++ (line ++ 10 ∷ after)) ++ more) left refl
      where
        by : (last : Option ℕ) (s : State) (p : ℕ) (text : List ℕ) → IsLeft settings roads last s p text →
            text ≡ (start_text found ++ (line ++ 10 ∷ after)) ++ more
            → IsNextLeft line after
        by last s p text (IsLeft.drops _ _ _ _ round entries small few is) e = dropped_next round entries small few (sym joined_text ∙ sym e ∙ is)
        by last s p text (IsLeft.row _ _ _ _ round number x rest stands may within free told replies left is) e =
            entry_next x.lane round (entry_line p x) rest (named_round last s.sealed round number stands) (p, x, told, refl, refl)
            (sym joined_text ∙ sym e ∙ is)
        by last s p text (IsLeft.close _ _ _ _ batch outcome rest sealed told fits good left is) e =
            entry_next 0 None (entry_line p (close_of batch outcome)) (lines_text (block_lines true batch.number outcome) ++ rest) tt
            (p, close_of batch outcome, told, refl, refl) (sym joined_text ∙ sym e ∙ is)
