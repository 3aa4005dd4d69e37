-- From the calls of passes to the entries of a book.
use Rattle.std.proofs.Common.{◌≡◌, ℕ, ◌<◌, List, [], ◌∷◌, ◌++◌, length, map, refl, sym, ap, subst, ◌∙◌}
use Rattle.std.specs.Prelude.{nat_lt, if◌then◌else◌}
use Rattle.std.proofs.lemmas.List.{append_cancel_left, map-append}
use Rattle.std.proofs.lemmas.List.Elements.{All-map}
use Rattle.request_book.specs.Book.{BookView, IsBook}
use Rattle.request_book.specs.Replay.{state_after, RepliesAreSteps}
use Rattle.request_book.specs.register.Step.{step}
use Rattle.request_book.specs.declared.values.command.Command.{Command}
use Rattle.request_book.specs.declared.values.journal.Entry.{Entry}
use Rattle.request_book.specs.declared.values.state.State.{State}
use Rattle.seat_lock.specs.Values.{GainsCalls, calls_of}
use Rattle.seat_lock.specs.declared.logged.LoggedCall.{LoggedCall}
use Rattle.dispatch_engine.specs.declared.lanes.locked.BookRoot.{BookRoot}
use Rattle.dispatch_engine.specs.declared.lanes.locked.LockedReply.{LockedReply}
use Rattle.dispatch_engine.specs.lanes.Locked.{calls_from, entry_of, log_of, root_of}
use Rattle.dispatch_engine.specs.lanes.Shared.{BookPass, IsFinished}
use Rattle.dispatch_engine.proofs.lemmas.lanes.LockedLemmas.{calls-append, calls-length}

module _ (nodes : List ℕ) (wait : ℕ) where
  -- the calls of entries give the entries back
  pub calls-entries : (s : State) (es : List Entry) → map entry_of (calls_from nodes wait s es) ≡ es
  unfolding calls_from
  calls-entries s [] = refl
  calls-entries s (e ∷ es) = ap (λ l. e ∷ l) (calls-entries (step nodes wait s e.command).0 es)

  pub replies-later : (s : State) (es later : List Entry) → RepliesAreSteps nodes wait s (es ++ later) →
      RepliesAreSteps nodes wait (state_after nodes wait s es) later
  unfolding state_after RepliesAreSteps
  replies-later s [] later replies = replies
  replies-later s (e ∷ es) later replies = replies-later (step nodes wait s e.command).0 es later replies.1

  -- where the calls of a longer journal are those of a shorter one and more, so are the entries
  pub gained-entries : (s : State) (es all : List Entry) (more : List (LoggedCall Command LockedReply)) →
      calls_from nodes wait s all ≡ calls_from nodes wait s es ++ more → all ≡ es ++ map entry_of more
  gained-entries s es all more gained =
      sym (calls-entries s all)
      ∙ ap (map entry_of) gained
      ∙ map-append entry_of (calls_from nodes wait s es) more
      ∙ ap (λ l. l ++ map entry_of more) (calls-entries s es)

  pub gained-calls : (s : State) (es all : List Entry) (more : List (LoggedCall Command LockedReply)) →
      calls_from nodes wait s all ≡ calls_from nodes wait s es ++ more → calls_from nodes wait (state_after nodes wait s es) (map entry_of more) ≡ more
  gained-calls s es all more gained = append_cancel_left (calls_from nodes wait s es) _ _
      (sym (calls-append nodes wait s es (map entry_of more)) ∙ ap (calls_from nodes wait s) (sym (gained-entries s es all more gained)) ∙ gained)

pub finished : ((nodes : List ℕ) (wait : ℕ) (s : State) (round later : List Entry) → state_after nodes wait s (round ++ later) ≡ state_after nodes wait
    (state_after nodes wait s round) later)
    → (start book : BookView) (passes : List BookPass) → IsBook start → IsBook book → root_of book ≡ root_of start →
    GainsCalls (log_of start) (log_of book) passes → IsFinished start passes book
finished rounds_join start book passes opened closed root gains =
    let since : List Entry = map entry_of gains.since in
    let gained : calls_from start.nodes start.wait start.base book.entries ≡ log_of start ++ gains.since =
    sym (ap (λ (r : BookRoot). calls_from r.nodes r.wait r.base book.entries) root) ∙ gains.gained in
    let entries : book.entries ≡ start.entries ++ since = gained-entries start.nodes start.wait start.base start.entries book.entries gains.since gained in
    let calls : calls_from start.nodes start.wait start.state since ≡ gains.since =
    ap (λ (s : State). calls_from start.nodes start.wait s since) opened.state
    ∙ gained-calls start.nodes start.wait start.base start.entries book.entries gains.since gained in
    let replies : RepliesAreSteps start.nodes start.wait start.base (start.entries ++ since) =
    subst (λ (es : List Entry). RepliesAreSteps start.nodes start.wait start.base es) entries
    (subst (λ (r : BookRoot). RepliesAreSteps r.nodes r.wait r.base book.entries) root closed.replies) in
    record {
      nodes = ap (λ (r : BookRoot). r.nodes) root;
      wait = ap (λ (r : BookRoot). r.wait) root;
      first = ap (λ (r : BookRoot). r.first) root;
      base = ap (λ (r : BookRoot). r.base) root;
      since = since;
      entries = entries;
      replies = subst (λ (s : State). RepliesAreSteps start.nodes start.wait s since) (sym opened.state)
          (replies-later start.nodes start.wait start.base start.entries since replies);
      state =
          closed.state
          ∙ ap (λ (r : BookRoot). state_after r.nodes r.wait r.base book.entries) root
          ∙ ap (state_after start.nodes start.wait start.base) entries
          ∙ rounds_join start.nodes start.wait start.base start.entries since
          ∙ ap (λ (s : State). state_after start.nodes start.wait s since) (sym opened.state);
      cut = λ k d lt. gains.cut k d lt ∙ ap (calls_of k) (sym calls);
      lanes = All-map (λ (e : Entry). e.lane < length passes) entry_of gains.since gains.lanes;
      once = λ n. gains.once n ∙ ap (λ (k : ℕ). if nat_lt n k then 1 else 0) (sym (ap length calls) ∙ calls-length start.nodes start.wait start.state since);
    }
