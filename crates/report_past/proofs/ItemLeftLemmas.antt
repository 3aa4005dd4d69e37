-- Which texts no run leaves, by the line with which they begin.
use Rattle.std.proofs.Common.{◌≡◌, ℕ, ◌<◌, ◌^◌, true, List, [], ◌∷◌, ◌++◌, codes, Option, None, IfSome, inl, inr, refl, sym, ap, subst, ◌∙◌}
use Rattle.dispatch_report.specs.Words.{numbered}
use Rattle.report_audit.specs.declared.lines.next.NextLine.{NextLine}
use Rattle.report_audit.specs.declared.lines.next.NextLine.TheVariants.{Round, Done, Entry as EntryOf}
use Rattle.report_audit.specs.lines.Cut.{is_one_line}
use Rattle.report_audit.specs.lines.Next.{IsNextLine}
use Rattle.report_past.proofs.CutLemmas.{cut_once, no_one_line}
use Rattle.report_past.proofs.NextLeftLemmas.{IsNextLeft, NotRound, next_left, none_cut}
use Rattle.report_past.proofs.WholeLeftLemmas.{Ends, ends_of}
use Rattle.report_past.specs.work.Left.{HasNoNextLine, IsLeft, IsLeftNowhere}
use Rattle.report_past.specs.work.Reading.{start_text}
use Rattle.request_book.specs.declared.values.state.State.{State}
use Rattle.rider_limits.specs.declared.settings.Settings.{Settings}
use Rattle.road_network.specs.Roads.{Roads}

-- no line of a round comes first
abbrev pub NoRoundFirst : List ℕ → Type 0
NoRoundFirst text = (n : ℕ) (after : List ℕ) → n < 2 ^ 32 → text ≡ numbered (codes "round ") n ++ 10 ∷ after → ⊥

pub no_round_cut : (text : List ℕ) → is_one_line text ≡ true → NoRoundFirst text
no_round_cut text one n after small e = no_one_line (numbered (codes "round ") n) after (subst (λ t. is_one_line t ≡ true) e one)

-- lines of other kinds
abbrev is_round : NextLine → Type 0
is_round (Round n) = Unit {0}
is_round _ = ⊥

module _ (one_kind : (x y : NextLine) (line : List ℕ) → IsNextLine x line → IsNextLine y line → x ≡ y) (line : List ℕ) (n : ℕ)
    (is : IsNextLine (Round n) line) where
  pub no_done : (entries : ℕ) → IsNextLine (Done entries) line → ⊥
  no_done entries also = subst is_round (one_kind (Round n) (Done entries) line is also) tt

  pub no_entry : (lane : ℕ) → IsNextLine (EntryOf lane) line → ⊥
  no_entry lane also = subst is_round (one_kind (Round n) (EntryOf lane) line is also) tt

module _ (one_line : (x : NextLine) (line : List ℕ) → IsNextLine x line → is_one_line line ≡ true) where
  pub no_round_first : (text line behind : List ℕ) → text ≡ line ++ 10 ∷ behind → is_one_line line ≡ true → ((n : ℕ) → IsNextLine (Round n) line → ⊥) →
      NoRoundFirst text
  no_round_first text line behind cut one none n after small e =
      let round = numbered (codes "round ") n in
      none n (small, (cut_once line round behind after one (one_line (Round n) round (small, refl)) (sym cut ∙ e)).0)

  module _ (one_kind : (x y : NextLine) (line : List ℕ) → IsNextLine x line → IsNextLine y line → x ≡ y)
      (text at : List ℕ) (found : Option ℕ) (start : text ≡ start_text found ++ at) (low : IfSome found (λ n. n < 2 ^ 32))
      (none : found ≡ None → NoRoundFirst text) where
    plain : (line after : List ℕ) → at ≡ line ++ 10 ∷ after → found ≡ None → (n : ℕ) → n < 2 ^ 32 → line ≡ numbered (codes "round ") n → ⊥
    plain line after cut is n small same = none is n after small (start ∙ (λ i. start_text (is i) ++ cut i) ∙ ap (λ l. l ++ 10 ∷ after) same)

    first_left : (line after : List ℕ) → at ≡ line ++ 10 ∷ after → is_one_line line ≡ true
        → (settings : Settings) (roads : Roads) (last : Option ℕ) (s : State) (p : ℕ) (more : List ℕ) → IsLeft settings roads last s p (text ++ more) →
        IsNextLeft line after
    first_left line after cut one settings roads last s p more left =
        next_left one_line one_kind settings roads found line after more low one (plain line after cut) last s p
        (subst (λ t. IsLeft settings roads last s p (t ++ more)) (start ∙ ap (λ t. start_text found ++ t) cut) left)

    pub no_next : (at ≡ [] → ⊥) → HasNoNextLine at → IsLeftNowhere text
    no_next some has_none settings roads last s p more ends left = elim has_none [
      | inl one ↦ some (none_cut one_line one_kind ends.inside found at low (subst (Ends ends.inside) start (ends_of text ends)) one)
      | inr cut ↦ let l = first_left cut.0 cut.1 cut.2 cut.3 settings roads last s p more left in cut.4 l.next l.is
    ]

    pub bad_done : (line after : List ℕ) → at ≡ line ++ 10 ∷ after → is_one_line line ≡ true → (n : ℕ) → IsNextLine (Done n) line → (after ≡ [] → ⊥) →
        IsLeftNowhere text
    bad_done line after cut one n is some settings roads last s p more ends left =
        let l = first_left line after cut one settings roads last s p more left in
        some (l.ends n (one_kind l.next (Done n) line l.is is))

    pub bad_round : (line after : List ℕ) → at ≡ line ++ 10 ∷ after → is_one_line line ≡ true → (n : ℕ) → IsNextLine (Round n) line → IsLeftNowhere text
    bad_round line after cut one n is settings roads last s p more ends left =
        let l = first_left line after cut one settings roads last s p more left in
        subst NotRound (one_kind l.next (Round n) line l.is is) l.no_round
