-- Entries behind others: their positions, their text, the state behind them and their notices.
use Rattle.std.proofs.Common.{◌≡◌, ℕ, ◌<◌, ◌^◌, Bool, List, [], ◌∷◌, ◌++◌, refl, sym, ap, ◌∙◌, append_assoc, append-nil, length-append, arith}
use Rattle.std.proofs.lemmas.Grind.{flat_map-append}
use Rattle.dispatch_report.specs.Entry.{entry_line}
use Rattle.dispatch_report.specs.Lines.{lines_text}
use Rattle.dispatch_report.specs.Round.{entries_lines, entry_block, entry_text}
use Rattle.pool_io.specs.Faults.{one_more}
use Rattle.request_book.specs.Book.{next_position}
use Rattle.request_book.specs.Replay.{state_after}
use Rattle.request_book.specs.register.Step.{step}
use Rattle.request_book.specs.declared.values.journal.Entry.{Entry}
use Rattle.request_book.specs.declared.values.state.State.{State}
use Rattle.request_book.specs.notices.Notices.{entry_notices, notices_from}

next-none : (p : ℕ) → p < 2 ^ 64 → next_position p [] ≡ p
next-none p low = omega arith

next-more : (p : ℕ) (e : Entry) (es : List Entry) → next_position (one_more p) es ≡ next_position p (e ∷ es)
next-more p e es = omega arith

pub next-append : (p : ℕ) (xs ys : List Entry) → next_position p (xs ++ ys) ≡ next_position (next_position p xs) ys
next-append p xs ys = omega (arith, length-append xs ys)

pub next-low : (p : ℕ) (es : List Entry) → next_position p es < 2 ^ 64
next-low p es = omega arith

-- texts
pub lines-append : (xs ys : List (List ℕ)) → lines_text (xs ++ ys) ≡ lines_text xs ++ lines_text ys
unfolding lines_text
lines-append xs ys = flat_map-append (λ line. line ++ 10 ∷ []) xs ys

pub entries-append : (proof : Bool) (p : ℕ) (xs ys : List Entry) → p < 2 ^ 64
    → lines_text (entries_lines proof p (xs ++ ys)) ≡ lines_text (entries_lines proof p xs) ++ lines_text (entries_lines proof (next_position p xs) ys)
unfolding entries_lines lines_text
entries-append proof p [] ys low = ap (λ (k : ℕ). lines_text (entries_lines proof k ys)) (sym (next-none p low))
entries-append proof p (e ∷ es) ys low =
    let block : List (List ℕ) = (entry_line p e ∷ []) ++ entry_block proof e.command e.reply in
    lines-append block (entries_lines proof (one_more p) (es ++ ys))
    ∙ ap (λ (t : List ℕ). lines_text block ++ t) (entries-append proof (one_more p) es ys (omega arith))
    ∙ ap (λ (k : ℕ). lines_text block ++ (lines_text (entries_lines proof (one_more p) es) ++ lines_text (entries_lines proof k ys))) (next-more p e es)
    ∙ sym (append_assoc (lines_text block) (lines_text (entries_lines proof (one_more p) es)) (lines_text (entries_lines proof (next_position p (e ∷ es)) ys)))
    ∙ ap (λ (t : List ℕ). t ++ lines_text (entries_lines proof (next_position p (e ∷ es)) ys)) (sym (lines-append block (entries_lines proof (one_more p) es)))

-- one entry's text
pub one-text : (proof : Bool) (p : ℕ) (e : Entry) → lines_text (entries_lines proof p (e ∷ [])) ≡ entry_text proof p e
unfolding entries_lines
one-text proof p e = ap lines_text (append-nil _)

-- states and notices
module _ (nodes : List ℕ) (wait : ℕ) where
  pub state-append : (s : State) (xs ys : List Entry) → state_after nodes wait s (xs ++ ys) ≡ state_after nodes wait (state_after nodes wait s xs) ys
  unfolding state_after
  state-append s [] ys = refl
  state-append s (e ∷ es) ys = state-append (step nodes wait s e.command).0 es ys

  pub notices-append : (s : State) (xs ys : List Entry) → notices_from nodes wait s (xs ++ ys) ≡ notices_from nodes wait s xs ++ notices_from nodes wait
      (state_after nodes wait s xs) ys
  unfolding notices_from state_after
  notices-append s [] ys = refl
  notices-append s (e ∷ es) ys =
      ap (λ t. entry_notices s e.command e.reply ++ t) (notices-append (step nodes wait s e.command).0 es ys)
      ∙ sym (append_assoc (entry_notices s e.command e.reply) (notices_from nodes wait (step nodes wait s e.command).0 es)
      (notices_from nodes wait (state_after nodes wait (step nodes wait s e.command).0 es) ys))

  pub one-notices : (s : State) (e : Entry) → notices_from nodes wait s (e ∷ []) ≡ entry_notices s e.command e.reply
  unfolding notices_from
  one-notices s e = append-nil (entry_notices s e.command e.reply)
