-- A day that goes on: what is kept of it, the close of a batch that was open, and a run behind it, as one run and its report.
use Rattle.std.proofs.Common.{◌≡◌, ℕ, ◌+◌, ◌≤◌, true, List, [], ◌∷◌, ◌++◌, Option, Some, None, Ok, refl, sym, ap, subst, ◌∙◌, append_assoc, arith}
use Rattle.std.proofs.lemmas.List.Elements.{All-cons, All-nil, All-weaker}
use Rattle.ridepool.proofs.Common.{Appends, Appends-trans, BookView, IsRun, LiveInputs, LiveSeen, live_head, opening, position_after_run, state_after_run}
use Rattle.std.specs.List.{All}
use Rattle.dispatch_engine.specs.outcome.Outcome.{IsGoodOutcome}
use Rattle.dispatch_report.specs.Round.{end_text, entry_text}
use Rattle.input_rows.proofs.lemmas.script.ScriptRowLemmas.{IsRead-script_row_in}
use Rattle.input_rows.specs.declared.live.judge.Judged.{Judged}
use Rattle.input_rows.specs.declared.live.judge.Judged.TheVariants as judged_as
use Rattle.input_rows.specs.declared.script.script_row.ScriptRow.{ScriptRow}
use Rattle.input_rows.specs.declared.script.version.ScriptVersion.{ScriptVersion}
use Rattle.input_rows.specs.live.Lines.{lines_in}
use Rattle.input_rows.specs.live.Rows.{accepted, judged, least_behind, next_row, rows_to_come}
use Rattle.input_rows.specs.script.ScriptRow.{script_row_in}
use Rattle.live_dispatch.proofs.lemmas.EntryLemmas.{one-text}
use Rattle.live_dispatch.specs.Closing.{book_behind, closing_entry}
use Rattle.live_dispatch.specs.Desk.{OutputsView, text_of}
use Rattle.live_dispatch.specs.Live.{journals_text, rows_rounds, rows_text}
use Rattle.report_past.proofs.lemmas.CloseLemmas.{Has, good_last, has_some, position_last, state_last, text_last}
use Rattle.report_past.proofs.lemmas.LaterLemmas.{later_rounds}
use Rattle.report_past.proofs.lemmas.LawLemmas.{goes_on, position-append, texts-append}
use Rattle.report_past.proofs.lemmas.StepLemmas.{closed_reply}
use Rattle.report_past.specs.Past.{StandsBehind, last_round}
use Rattle.report_past.specs.Told.{AreScriptRows, IsLater, IsToldRun, PastIsGood, close_of, closed_with, with_last}
use Rattle.request_book.specs.Book.{next_position}
use Rattle.request_book.specs.register.Step.{step}
use Rattle.request_book.specs.values.Batch.{Batch}
use Rattle.request_book.specs.declared.values.command.Command.TheVariants.{Close}
use Rattle.request_book.specs.declared.values.journal.Entry.{Entry}
use Rattle.request_book.specs.declared.values.journal.Journal.{Journal}
use Rattle.request_book.specs.declared.values.outcome.Answer.TheVariants.{Overflow}
use Rattle.request_book.specs.declared.values.outcome.Outcome.{Outcome}
use Rattle.request_book.specs.declared.values.reply.Reply.{Reply}
use Rattle.request_book.specs.declared.values.state.State.{State}
use Rattle.ridepool.specs.Resume.{CatchesUp, Copies, Day, IsPastOf, IsWholeReport, Kept, RunsBehind, at_entry}

-- some outcome, where none is asked for
no_outcome : Outcome
no_outcome = record { expired = []; answer = Overflow }

module _ (i : LiveInputs) (rows : List ScriptRow) where
  abbrev start : State
  start = opening i.vehicles

  abbrev old_text : List Journal → List ℕ
  old_text told = journals_text i.settings.proof (rows_rounds rows) told

  -- journals that tell the old rows and whose closes are good, and a run behind them
  module _ (new : List ScriptRow) (told journals : List Journal) (book : BookView)
      (runs : IsToldRun i.settings i.roads start 0 (rows_rounds rows) told) (good : PastIsGood i.settings i.roads told)
      (base : book.base ≡ state_after_run i.settings i.roads start told) (first : book.first ≡ position_after_run 0 told) where
    abbrev new_text : List ℕ
    new_text = journals_text i.settings.proof (rows_rounds new) journals

    joined-run : IsRun i.settings i.roads book.base book.first (rows_rounds new) journals
        → IsRun i.settings i.roads start 0 (rows_rounds rows ++ rows_rounds new) (told ++ journals)
    joined-run run =
        let Run : State → ℕ → Type 0 = λ s p. IsRun i.settings i.roads s p (rows_rounds new) journals in
        goes_on i.settings i.roads start 0 (rows_rounds rows) (rows_rounds new) told journals runs good
        (subst (Run (state_after_run i.settings i.roads start told)) first (subst (λ s. Run s book.first) base run))

    joined-text : (live_head i ++ old_text told) ++ rows_text i.settings i.roads book.first new journals
        ≡ (live_head i ++ journals_text i.settings.proof (rows_rounds rows ++ rows_rounds new) (told ++ journals)) ++ end_text
        (position_after_run 0 (told ++ journals))
    joined-text =
        let ends = end_text (position_after_run book.first journals) in
        let all = journals_text i.settings.proof (rows_rounds rows ++ rows_rounds new) (told ++ journals) in
        sym (append_assoc (live_head i ++ old_text told) new_text ends)
        ∙ ap (λ t. t ++ ends) (append_assoc (live_head i) (old_text told) new_text ∙ ap (λ t. live_head i ++ t)
        (sym (texts-append i.settings i.roads i.settings.proof start 0 (rows_rounds rows) (rows_rounds new) told journals runs)))
        ∙ ap (λ p. (live_head i ++ all) ++ end_text p) (ap (λ p. position_after_run p journals) first ∙ sym (position-append 0 told journals))

    pub whole-of : (seen : LiveSeen) (behind : Option (List ℕ)) → Appends seen.out.before.written behind (live_head i ++ old_text told)
        → IsRun i.settings i.roads book.base book.first (rows_rounds new) journals
        → Appends behind seen.out.after.written (rows_text i.settings i.roads book.first new journals) → IsWholeReport i seen rows new
    whole-of seen behind front run rest = record {
      journals = told ++ journals;
      run = joined-run run;
      text = subst (λ t. Appends seen.out.before.written seen.out.after.written t) joined-text
          (Appends-trans seen.out.before.written behind seen.out.after.written (live_head i ++ old_text told)
          (rows_text i.settings i.roads book.first new journals)
          front rest);
    }

  -- the close of the batch that was open
  module _ (made : List Journal) (book : BookView) (batch : Batch) (outcome : Outcome)
      (stands : StandsBehind i.settings i.roads i.vehicles made book (Some batch))
      (told : IsToldRun i.settings i.roads start 0 (rows_rounds rows) (with_last (close_of batch outcome) made)) where
    abbrev e : Entry
    e = closing_entry book batch outcome

    state_is : book.state ≡ state_after_run i.settings i.roads start made
    state_is = stands.state ∙ stands.base

    sealed : (state_after_run i.settings i.roads start made).sealed ≡ Some batch
    sealed = ap (λ (s : State). s.sealed) (sym state_is) ∙ stands.sealed

    has : Has made
    has = has_some i.settings i.roads start made batch refl sealed

    entry_is : e ≡ close_of batch outcome
    entry_is = ap (λ (r : Reply). record { lane = 0; command = Close batch.number outcome; reply = r })
        (closed_reply book.nodes book.wait book.state batch outcome stands.sealed)

    pub closed_text : old_text made ++ text_of i.settings.proof book (e ∷ []) ≡ old_text (with_last (close_of batch outcome) made)
    closed_text =
        ap (λ t. old_text made ++ t) (one-text i.settings.proof book.first e ∙ (λ k. entry_text i.settings.proof (stands.first k) (entry_is k)))
        ∙ sym (text_last i.settings i.roads i.settings.proof start 0 (rows_rounds rows) made (close_of batch outcome) (omega arith) has told)

    pub closed_base : (book_behind book e).base ≡ state_after_run i.settings i.roads start (with_last (close_of batch outcome) made)
    closed_base = (λ k. (step (stands.nodes k) (stands.wait k) (state_is k) (Close batch.number outcome)).0) ∙
        sym (state_last i.settings i.roads start made (close_of batch outcome) has)

    pub closed_first : (book_behind book e).first ≡ position_after_run 0 (with_last (close_of batch outcome) made)
    closed_first = (λ k. next_position (stands.first k) (entry_is k ∷ [])) ∙ sym (position_last 0 made (close_of batch outcome) has)

    pub closed_good : PastIsGood i.settings i.roads made → IsGoodOutcome i.settings i.roads batch outcome →
        PastIsGood i.settings i.roads (with_last (close_of batch outcome) made)
    closed_good good is = good_last i.settings i.roads start 0 (rows_rounds rows) made (close_of batch outcome) told good (batch, sealed, is)

  -- behind what is kept, and the close of a batch that was open, a run of new rows
  module _ (made : List Journal) (seen : LiveSeen) (new : List ScriptRow) (journals : List Journal) (good : PastIsGood i.settings i.roads made) where
    pub whole-by : (waits : Option Batch) (old book : BookView) (copied behind : OutputsView) → CatchesUp i.settings i.roads old copied waits book behind
        → StandsBehind i.settings i.roads i.vehicles made old waits
        → ((outcome : Outcome) → IsToldRun i.settings i.roads start 0 (rows_rounds rows) (closed_with waits outcome made))
        → Appends seen.out.before.written copied.sink.written (live_head i ++ old_text made)
        → IsRun i.settings i.roads book.base book.first (rows_rounds new) journals
        → Appends behind.sink.written seen.out.after.written (rows_text i.settings i.roads book.first new journals) → IsWholeReport i seen rows new
    whole-by None old book copied behind CatchesUp.none stands told front run rest =
        whole-of new made journals book (told no_outcome) good stands.base stands.first seen behind.sink.written front run rest
    whole-by (Some batch) old book copied behind (CatchesUp.closed _ _ _ c) stands told front run rest =
        let runs = told c.outcome in
        let all = with_last (close_of batch c.outcome) made in
        let closing = text_of i.settings.proof old (closing_entry old batch c.outcome ∷ []) in
        let joined : (live_head i ++ old_text made) ++ closing ≡ live_head i ++ old_text all =
        append_assoc (live_head i) (old_text made) closing ∙ ap (λ t. live_head i ++ t) (closed_text made old batch c.outcome stands runs) in
        whole-of new all journals book runs (closed_good made old batch c.outcome stands runs good c.closed.good)
        (ap (λ (b : BookView). b.base) c.behind ∙ closed_base made old batch c.outcome stands runs)
        (ap (λ (b : BookView). b.first) c.behind ∙ closed_first made old batch c.outcome stands runs)
        seen behind.sink.written
        (subst (λ t. Appends seen.out.before.written behind.sink.written t) joined
        (Appends-trans seen.out.before.written copied.sink.written behind.sink.written (live_head i ++ old_text made) closing front c.closed.text)) run rest

-- if what the kept closes tell is good, all that was written is one report
pub whole : (d : Day) (seen : LiveSeen) (kept : Kept) (past : IsPastOf d kept) → d.inputs.settings.proof ≡ true → (copied : OutputsView) →
    Copies d kept (at_entry seen) copied
    → (book : BookView) (behind : OutputsView) → CatchesUp d.inputs.settings d.inputs.roads kept.book copied kept.open_batch book behind
    → (rows : Option (List ScriptRow)) (runs : RunsBehind d seen book behind rows) → PastIsGood d.inputs.settings d.inputs.roads past.made →
    IsWholeReport d.inputs seen past.rows runs.lines
whole d seen kept past proof copied copies book behind caught rows runs good =
    let kept_is : kept.text ≡ journals_text d.inputs.settings.proof (rows_rounds past.rows) past.made =
    past.printed ∙ ap (λ p. journals_text p (rows_rounds past.rows) past.made) (sym proof) in
    whole-by d.inputs past.rows past.made seen runs.lines runs.journals good kept.open_batch kept.book book copied behind caught past.book past.told
    (subst (λ t. Appends seen.out.before.written copied.sink.written (live_head d.inputs ++ t)) kept_is copies.text) runs.run runs.text

-- the rows to come behind a round belong to later ones
row-from : (version : ScriptVersion) (last : ℕ) (fields : List (List ℕ)) (row : ScriptRow) → script_row_in version 1 last fields ≡ Ok row → last ≤ row.round
row-from version last fields row is = (IsRead-script_row_in version 1 last fields row is).behind.round

judged-from : (version : ScriptVersion) (last : ℕ) (line : List ℕ) (row : ScriptRow) → judged version last line ≡ judged_as.Accepted row → last ≤ row.round
judged-from version last line row is = grind (arith, row-from version last)

abbrev From : ℕ → ScriptRow → Type 0
From least row = least ≤ row.round

accepted-from : (version : ScriptVersion) (least : ℕ) (lines : List (List ℕ)) → All (From least) (accepted version least lines)
accepted-from version least [] = All-nil (From least)
accepted-from version least (line ∷ lines) = by (judged version least line) refl (accepted-from version least lines)
    (λ round. accepted-from version round lines)
  where
    by : (j : Judged) → judged version least line ≡ j → All (From least) (accepted version least lines) →
        ((round : ℕ) → All (From round) (accepted version round lines))
        → All (From least) (next_row least j (λ round. accepted version round lines))
    by (judged_as.Accepted row) is same further =
        let here = judged-from version least line row is in
        All-cons (From least) row (accepted version row.round lines) here
        (All-weaker (From row.round) (From least) (λ r more. omega (arith, here, more)) (accepted version row.round lines) (further row.round))
    by judged_as.Empty is same further = same
    by (judged_as.Refused refusal) is same further = same

later-of : (last : Option ℕ) (rows : List ScriptRow) → All (From (least_behind last)) rows → All (IsLater last) rows
later-of None rows all = All-weaker (From 0) (IsLater None) (λ r _. tt) rows all
later-of (Some last) rows all = All-weaker (From (last + 1)) (IsLater (Some last)) (λ r more. omega (arith, more)) rows all

pub rounds-joined : (version : ScriptVersion) (last : Option ℕ) (next : Option (List ℕ)) (old : List ScriptRow) → AreScriptRows 0 old → last ≡ last_round old
    → (told : List ScriptRow) → rows_to_come version (least_behind last) next ≡ Some told → rows_rounds (old ++ told) ≡ rows_rounds old ++ rows_rounds told
rounds-joined version last None old lawful is told come = absurd (let no : None ≡ Some told = come in cc)
rounds-joined version last (Some text) old lawful is told come =
    let told_is : accepted version (least_behind last) (lines_in text) ≡ told = (let e : Some (accepted version (least_behind last) (lines_in text)) ≡ Some
    told =
    come in cc) in
    later_rounds old told lawful (subst (λ l. All (IsLater l) told) is
    (subst (λ rs. All (IsLater last) rs) told_is (later-of last (accepted version (least_behind last) (lines_in text))
    (accepted-from version (least_behind last) (lines_in text)))))
