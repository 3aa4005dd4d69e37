-- The close of an open batch behind journals.
use Rattle.std.proofs.Common.{◌≡◌, ℕ, ◌<◌, ◌^◌, Bool, List, [], ◌∷◌, ◌++◌, Some, None, sym, ap, subst, ◌∙◌, append_assoc, append-nil}
use Rattle.std.proofs.lemmas.List.Elements.{All-cons, All-head, All-nil, All-tail}
use Rattle.dispatch_engine.specs.lanes.Lane.{IsGoodClose}
unfoldable use Rattle.dispatch_engine.specs.lanes.Lane.{ClosesAreGood}
use Rattle.dispatch_engine.specs.lanes.Run.{position_after_run, state_after_run}
use Rattle.dispatch_report.specs.Lines.{lines_text}
unfoldable use Rattle.dispatch_report.specs.Round.{round_text}
use Rattle.dispatch_report.specs.Round.{entries_lines, entry_text}
use Rattle.dispatch_report.specs.Words.{numbered}
use Rattle.std.specs.Prelude.{codes}
use Rattle.input_rows.specs.script.Round.{NumberedLanes}
use Rattle.live_dispatch.proofs.lemmas.EntryLemmas.{entries-append, lines-append, next-append, next-low, one-text, state-append}
use Rattle.live_dispatch.specs.Live.{journals_text}
use Rattle.report_past.specs.Told.{IsToldRun, PastIsGood, with_last}
use Rattle.request_book.specs.Book.{next_position}
unfoldable use Rattle.request_book.specs.Replay.{state_after}
use Rattle.request_book.specs.register.Step.{step}
use Rattle.request_book.specs.values.Batch.{Batch}
use Rattle.request_book.specs.declared.values.journal.Entry.{Entry}
use Rattle.request_book.specs.declared.values.journal.Journal.{Journal}
use Rattle.request_book.specs.declared.values.state.State.{State}
use Rattle.rider_limits.specs.declared.settings.Settings.{Settings}
use Rattle.road_network.specs.Roads.{Roads}

-- there is a journal where a batch is sealed that wasn't at the start
abbrev pub Has : List Journal → Type 0
Has [] = ⊥
Has (j ∷ js) = Unit {0}

pub position_last : (p : ℕ) (js : List Journal) (e : Entry) → Has js → position_after_run p (with_last e js) ≡ next_position (position_after_run p js) (e ∷ [])
position_last p [] e has = absurd has
position_last p (j ∷ []) e has = next-append p j.entries (e ∷ [])
position_last p (j ∷ k ∷ js) e has = position_last (next_position p j.entries) (k ∷ js) e tt

-- a round with one more entry
pub round_last : (number : ℕ) (proof : Bool) (j : Journal) (e : Entry) → j.first < 2 ^ 64
    → round_text number proof (record j { entries = j.entries ++ e ∷ [] }) ≡ round_text number proof j ++ entry_text proof (next_position j.first j.entries) e
unfolding round_text
round_last number proof j e low =
    let line : List (List ℕ) = numbered (codes "round ") number ∷ [] in
    lines-append line (entries_lines proof j.first (j.entries ++ e ∷ []))
    ∙ ap (λ t. lines_text line ++ t) (entries-append proof j.first j.entries (e ∷ []) low ∙
    ap (λ t. lines_text (entries_lines proof j.first j.entries) ++ t) (one-text proof (next_position j.first j.entries) e))
    ∙ sym (append_assoc (lines_text line) (lines_text (entries_lines proof j.first j.entries)) (entry_text proof (next_position j.first j.entries) e))
    ∙ ap (λ t. t ++ entry_text proof (next_position j.first j.entries) e) (sym (lines-append line (entries_lines proof j.first j.entries)))

module _ (settings : Settings) (roads : Roads) where
  abbrev Good : Journal → Type 0
  Good j = ClosesAreGood settings roads j.base j.entries

  pub has_some : (s : State) (js : List Journal) (b : Batch) → s.sealed ≡ None → (state_after_run settings roads s js).sealed ≡ Some b → Has js
  has_some s [] b none is = let no : None ≡ Some b = sym none ∙ is in absurd cc
  has_some s (j ∷ js) b none is = tt

  pub state_last : (s : State) (js : List Journal) (e : Entry) → Has js → state_after_run settings roads s (with_last e js) ≡
      (step roads.nodes settings.wait (state_after_run settings roads s js) e.command).0
  unfolding state_after
  state_last s [] e has = absurd has
  state_last s (j ∷ []) e has = state-append roads.nodes settings.wait s j.entries (e ∷ [])
  state_last s (j ∷ k ∷ js) e has = state_last (state_after roads.nodes settings.wait s j.entries) (k ∷ js) e tt

  pub closes_push : (s : State) (es : List Entry) (e : Entry) → ClosesAreGood settings roads s es →
      IsGoodClose settings roads (state_after roads.nodes settings.wait s es) e.command e.reply
      → ClosesAreGood settings roads s (es ++ e ∷ [])
  unfolding ClosesAreGood state_after
  closes_push s [] e good is = (is, tt)
  closes_push s (x ∷ es) e good is = (good.0, closes_push (step roads.nodes settings.wait s x.command).0 es e good.1 is)

  pub good_last : (s : State) (p : ℕ) (rs : List NumberedLanes) (js : List Journal) (e : Entry) → IsToldRun settings roads s p rs (with_last e js) →
      PastIsGood settings roads js
      → IsGoodClose settings roads (state_after_run settings roads s js) e.command e.reply → PastIsGood settings roads (with_last e js)
  good_last s p rs [] e told good is = All-nil Good
  good_last s p [] (j ∷ []) e told good is = absurd told
  good_last s p [] (j ∷ k ∷ js) e told good is = absurd told
  good_last s p (r ∷ rs) (j ∷ []) e told good is =
      All-cons Good (record j { entries = j.entries ++ e ∷ [] }) []
      (closes_push j.base j.entries e (All-head Good j [] good)
      (subst (λ t. IsGoodClose settings roads (state_after roads.nodes settings.wait t j.entries) e.command e.reply) (sym told.0) is)) (All-nil Good)
  good_last s p (r ∷ rs) (j ∷ k ∷ js) e told good is =
      All-cons Good j (with_last e (k ∷ js)) (All-head Good j (k ∷ js) good)
      (good_last (state_after roads.nodes settings.wait s j.entries) (next_position p j.entries) rs (k ∷ js) e told.3 (All-tail Good j (k ∷ js) good) is)

  pub text_last : (proof : Bool) (s : State) (p : ℕ) (rs : List NumberedLanes) (js : List Journal) (e : Entry) → p < 2 ^ 64 → Has js →
      IsToldRun settings roads s p rs (with_last e js)
      → journals_text proof rs (with_last e js) ≡ journals_text proof rs js ++ entry_text proof (position_after_run p js) e
  text_last proof s p rs [] e low has told = absurd has
  text_last proof s p [] (j ∷ []) e low has told = absurd told
  text_last proof s p [] (j ∷ k ∷ js) e low has told = absurd told
  text_last proof s p (r ∷ []) (j ∷ []) e low has told =
      append-nil (round_text r.number proof (record j { entries = j.entries ++ e ∷ [] })) ∙
      round_last r.number proof j e (subst (λ q. q < 2 ^ 64) (sym told.1) low)
      ∙ ap (λ q. round_text r.number proof j ++ entry_text proof (next_position q j.entries) e) told.1 ∙
      ap (λ t. t ++ entry_text proof (next_position p j.entries) e) (sym (append-nil (round_text r.number proof j)))
  text_last proof s p (r ∷ q ∷ rs) (j ∷ []) e low has told = absurd told.3
  text_last proof s p (r ∷ rs) (j ∷ k ∷ js) e low has told =
      ap (λ t. round_text r.number proof j ++ t)
      (text_last proof (state_after roads.nodes settings.wait s j.entries) (next_position p j.entries) rs (k ∷ js) e (next-low p j.entries) tt told.3)
      ∙ sym (append_assoc (round_text r.number proof j) (journals_text proof rs (k ∷ js)) (entry_text proof
      (position_after_run (next_position p j.entries) (k ∷ js)) e))
