-- Whole lines with which what is left of a run begins.
use Rattle.std.proofs.Common.{◌≡◌, ℕ, Bool, true, false, not, List, [], ◌∷◌, ◌++◌, refl, sym, ap, subst, ◌∙◌, append_assoc, ◌⊎◌, inl, inr}
use Rattle.std.proofs.lemmas.List.Elements.{All-head, All-tail}
use Rattle.std.specs.List.{All}
unfoldable use Rattle.dispatch_report.specs.Lines.{lines_text}
use Rattle.report_audit.specs.lines.Cut.{is_one_line}
use Rattle.report_past.proofs.CutLemmas.{after_more, after_none, cut_once, first_line, no_one_line, no_text}
use Rattle.report_past.specs.Whole.{IsWholeText, after_line, after_lines, is_end}
use Rattle.report_past.specs.work.Left.{EndsWhole}

-- the text is whole lines, behind which no block is open; before them one is, or none
pub record Ends (inside : Bool) (text : List ℕ) : Type 0 where
  pub lines : List (List ℕ)
  pub ones : All (λ line. is_one_line line ≡ true) lines
  pub printed : text ≡ lines_text lines
  pub closed : after_lines inside lines ≡ false

pub whole_ends : (text : List ℕ) → IsWholeText text → Ends false text
whole_ends text is = record { lines = is.lines; ones = is.ones; printed = is.printed; closed = is.closed }

pub ends_whole : (text : List ℕ) → Ends false text → IsWholeText text
ends_whole text is = record { lines = is.lines; ones = is.ones; printed = is.printed; closed = is.closed }

pub ends_any : (inside : Bool) (text : List ℕ) → Ends inside text → EndsWhole text
ends_any inside text is = record { inside = inside; lines = is.lines; ones = is.ones; printed = is.printed; closed = is.closed }

pub ends_of : (text : List ℕ) (is : EndsWhole text) → Ends is.inside text
ends_of text is = record { lines = is.lines; ones = is.ones; printed = is.printed; closed = is.closed }

abbrev One : List ℕ → Type 0
One line = is_one_line line ≡ true

lines_first : (l : List ℕ) (ls : List (List ℕ)) → lines_text (l ∷ ls) ≡ l ++ 10 ∷ lines_text ls
unfolding lines_text
lines_first l ls = append_assoc l (10 ∷ []) (lines_text ls)

-- nothing but whole lines is left
pub ends_one : (inside : Bool) (text : List ℕ) → Ends inside text → is_one_line text ≡ true → text ≡ []
unfolding lines_text
ends_one inside text is one = by is.lines is.printed
  where
    by : (ls : List (List ℕ)) → text ≡ lines_text ls → text ≡ []
    by [] printed = printed
    by (l ∷ ls) printed = absurd (no_one_line l (lines_text ls) (subst One (printed ∙ lines_first l ls) one))

no_feed : (a b : List ℕ) → a ++ 10 ∷ b ≡ lines_text [] → ⊥
unfolding lines_text
no_feed [] b e = cc
no_feed (x ∷ a) b e = cc

-- one line less
pub ends_first : (inside : Bool) (line after : List ℕ) → is_one_line line ≡ true → Ends inside (line ++ 10 ∷ after) → Ends (after_line inside line) after
ends_first inside line after one is = by is.lines is.ones is.printed is.closed
  where
    by : (ls : List (List ℕ)) → All One ls → line ++ 10 ∷ after ≡ lines_text ls → after_lines inside ls ≡ false → Ends (after_line inside line) after
    by [] ones printed closed = absurd (no_feed line after printed)
    by (l ∷ ls) ones printed closed =
        let same = cut_once line l after (lines_text ls) one (All-head One l ls ones) (printed ∙ lines_first l ls) in
        record {
          lines = ls;
          ones = All-tail One l ls ones;
          printed = same.1;
          closed = ap (λ m. after_lines (after_line inside m) ls) same.0 ∙ sym (after_more inside l ls) ∙ closed;
        }

-- the lines of a block: the last is its end, and no other is
abbrev pub Blocks : List (List ℕ) → Type 0
Blocks [] = ⊥
Blocks (b ∷ bs) = (is_one_line b ≡ true) × (((is_end b ≡ true) × (bs ≡ [])) ⊎ ((is_end b ≡ false) × Blocks bs))

-- a block of which a beginning is whole lines behind which no block is open stands whole
pub record Stands (text more tail : List ℕ) (bs : List (List ℕ)) : Type 0 where
  pub after : List ℕ
  pub block : text ≡ lines_text bs ++ after
  pub rest : tail ≡ after ++ more
  pub ends : Ends false after

pub block_stands : (bs ls : List (List ℕ)) (text more tail : List ℕ) → Blocks bs → All One ls → text ≡ lines_text ls → after_lines true ls ≡ false
    → text ++ more ≡ lines_text bs ++ tail → Stands text more tail bs
block_stands [] ls text more tail blocks ones printed closed e = absurd blocks
block_stands (b ∷ bs) [] text more tail blocks ones printed closed e = absurd (let on : true ≡ false = sym (after_none true) ∙ closed in cc)
block_stands (b ∷ bs) (l ∷ ls) text more tail (one, more_blocks) ones printed closed e =
    let front : text ++ more ≡ l ++ 10 ∷ (lines_text ls ++ more) = ap (λ t. t ++ more) printed ∙ first_line l ls more in
    let same = cut_once l b (lines_text ls ++ more) (lines_text bs ++ tail) (All-head One l ls ones) one (sym front ∙ e ∙ first_line b bs tail) in
    let behind : after_lines (after_line true b) ls ≡ false = ap (λ m. after_lines (after_line true m) ls) (sym same.0) ∙ sym (after_more true l ls) ∙ closed in
    let whole : (after : List ℕ) → lines_text ls ≡ lines_text bs ++ after → text ≡ lines_text (b ∷ bs) ++ after =
    λ after is. printed ∙ lines_first l ls ∙ (λ i. same.0 i ++ 10 ∷ is i) ∙ sym (first_line b bs after) in
    elim more_blocks [
      | inl last ↦ record {
        after = lines_text ls;
        block = whole (lines_text ls) (sym (no_text (lines_text ls)) ∙ ap (λ xs. lines_text xs ++ lines_text ls) (sym last.1));
        rest = sym (no_text tail) ∙ ap (λ xs. lines_text xs ++ tail) (sym last.1) ∙ sym same.1;
        ends = record { lines = ls; ones = All-tail One l ls ones; printed = refl; closed = ap (λ c. after_lines (not c) ls) (sym last.0) ∙ behind };
      }
      | inr further ↦
          let stands = block_stands bs ls (lines_text ls) more tail further.1 (All-tail One l ls ones) refl
          (ap (λ c. after_lines (not c) ls) (sym further.0) ∙ behind) same.1 in
          record { after = stands.after; block = whole stands.after stands.block; rest = stands.rest; ends = stands.ends }
    ]
