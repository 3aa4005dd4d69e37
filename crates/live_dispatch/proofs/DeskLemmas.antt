-- One more entry, and what is written with it.
use Rattle.std.proofs.Common.{
  ◌≡◌,
  ℕ,
  ◌<◌,
  ◌≤◌,
  ◌^◌,
  ◌-◌,
  Bool,
  List,
  [],
  ◌∷◌,
  ◌++◌,
  length,
  get_or,
  map,
  take,
  Option,
  None,
  Some,
  Result,
  Ok,
  Err,
  arith,
  refl,
  sym,
  ap,
  subst,
  ◌∙◌,
}
use Rattle.std.proofs.KnownBytes.{Appends-nil, Appends-trans}
use Rattle.std.specs.Io.KnownBytes.{Appends}
use Rattle.std.proofs.lemmas.Bool.{false≢true}
use Rattle.std.specs.Prelude.{is_some, false, cond, OnOk}
use Rattle.std.proofs.lemmas.List.{get_or_push, length-map, length_push, map-append}
use Rattle.dispatch_engine.specs.lanes.Locked.{log_of, snapshot_before}
use Rattle.dispatch_engine.proofs.lemmas.lanes.LockedLemmas.{calls-length, applied-call, applied-fits}
use Rattle.live_dispatch.specs.Desk.{desk_call, desk_log, pass_of, HasEntered, entries_text, text_of, notices_in, DeskView, IsDesk, IsPassedOn, OutputsView}
use Rattle.pool_io.specs.Faults.{Rose}
use Rattle.pool_io.specs.Sink.{AppendsPart}
use Rattle.request_book.specs.Book.{BookView, next_position, IsApplied, IsBook}
use Rattle.request_book.specs.Replay.{state_after}
use Rattle.request_book.specs.declared.values.command.Command.TheVariants.{Close}
use Rattle.request_book.specs.declared.values.command.Command.{Command}
use Rattle.request_book.specs.declared.values.journal.Entry.{Entry}
use Rattle.request_book.specs.declared.values.reply.Reply.{Reply}
use Rattle.request_book.specs.declared.values.reply.Reply.TheVariants.{Closed}
use Rattle.request_book.specs.declared.values.state.State.{State}
use Rattle.request_book.specs.notices.Notices.{entry_notices, notices_from}
use Rattle.request_book.specs.notices.Told.{HaveHeard, NotifierView}
use Rattle.request_book.specs.declared.notices.notice.Notice.{Notice}
use Rattle.request_book.proofs.lemmas.notices.HeardLemmas.{all-heard-more, all-heard-nothing}
use Rattle.dispatch_report.specs.Lines.{lines_text}
use Rattle.dispatch_report.specs.Round.{entries_lines, entry_text}
use Rattle.dispatch_report.specs.declared.fault.ReportFault.{ReportFault}
use Rattle.dispatch_report.specs.declared.fault.ReportFault.TheVariants.{WriteFault}
use Rattle.request_book.specs.values.Batch.{Batch}
use Rattle.dispatch_engine.specs.declared.lanes.locked.LockedReply.{LockedReply}
use Rattle.live_dispatch.proofs.lemmas.EntryLemmas.{entries-append, notices-append, one-notices, one-text}
use Rattle.live_dispatch.specs.work.Telling.{TellsClose, WroteLast, is_closed}

-- a command that wasn't answered `closed` has no notices, and no other command than a close has any
close-notices : (s : State) (c : Command) (r : Reply) → cond (is_closed r) (entry_notices s c Closed) [] ≡ entry_notices s c r
close-notices s c Closed = refl
close-notices s (Close batch outcome) r = refl
close-notices s _ r = refl

-- where the reply isn't `closed`, nobody is told anything
pub untold : (notices : List Notice) (reply : Reply) (ns : List NotifierView) → is_closed reply ≡ false → TellsClose notices reply ns ns
untold notices reply ns is = subst (λ b. HaveHeard (cond b notices []) ns ns) (sym is) (all-heard-nothing ns)

-- the text of a journal with one more entry
pub entries_text-push : (proof : Bool) (old new : BookView) (lane : ℕ) (command : Command) (reply : Reply) → old.first < 2 ^ 64 →
    IsApplied old lane command reply new
    → entries_text proof new ≡ entries_text proof old ++ entry_text proof (next_position old.first old.entries)
    (record { lane = lane; command = command; reply = reply })
entries_text-push proof old new lane command reply small applied =
    let e : Entry = record { lane = lane; command = command; reply = reply } in
    (λ i. lines_text (entries_lines proof (applied.first i) (applied.entries i)))
    ∙ entries-append proof old.first old.entries (e ∷ []) small
    ∙ ap (λ t. entries_text proof old ++ t) (one-text proof (next_position old.first old.entries) e)

-- a desk with nothing written
pub desk-opened : (book : BookView) (proof : Bool) (outputs : OutputsView) → IsBook book → book.entries ≡ [] → book.first < 2 ^ 64
    → IsDesk (record { book = book; proof = proof; opened = outputs; now = outputs; fault = None })
unfolding entries_lines lines_text notices_from
desk-opened book proof outputs kept empty small =
    let P : List Entry → Type 0 = λ es. Appends outputs.sink.written outputs.sink.written (text_of proof book es) × HaveHeard (notices_in book es)
    outputs.notifiers outputs.notifiers in
    record {
      book = kept;
      first = small;
      told = subst P (sym empty) (Appends-nil outputs.sink.written, all-heard-nothing outputs.notifiers);
      never_falls =
          omega arith;
    }

module _ (old : DeskView) (lane : ℕ) (command : Command) (reply : Reply) (book : BookView) (now : OutputsView)
    (desk : IsDesk old) (whole : old.fault ≡ None) (kept : IsBook book) (applied : IsApplied old.book lane command reply book) where
  abbrev e : Entry
  e = record { lane = lane; command = command; reply = reply }

  abbrev more : List ℕ
  more = entry_text old.proof (next_position old.book.first old.book.entries) e

  before : IsPassedOn None old.proof old.book old.opened old.now
  before = subst (λ (f : Option ReportFault). IsPassedOn f old.proof old.book old.opened old.now) whole desk.told

  small : book.first < 2 ^ 64
  small = subst (λ (n : ℕ). n < 2 ^ 64) (sym applied.first) desk.first

  -- the notices of the old entries
  old-notices : notices_in book old.book.entries ≡ notices_in old.book old.book.entries
  old-notices = λ i. notices_from (applied.nodes i) (applied.wait i) (applied.base i) old.book.entries

  -- the text was written whole, and the notices were told
  desk-told : Appends old.now.sink.written now.sink.written more → old.now.sink.faults ≤ now.sink.faults
      → (notices : List Notice) → notices ≡ entry_notices old.book.state command Closed → TellsClose notices reply old.now.notifiers now.notifiers
      → IsDesk (record { book = book; proof = old.proof; opened = old.opened; now = now; fault = None })
  desk-told wrote falls notices is told =
      let mine : List Notice = entry_notices old.book.state command reply in
      let heard : HaveHeard mine old.now.notifiers now.notifiers =
      subst (λ ns. HaveHeard ns old.now.notifiers now.notifiers) (ap (λ ns. cond (is_closed reply) ns []) is ∙ close-notices old.book.state command reply)
      told in
      let all : notices_in old.book old.book.entries ++ mine ≡ notices_in book book.entries =
      ap (λ s. notices_in old.book old.book.entries ++ entry_notices s command reply) desk.book.state
      ∙ sym (notices-append old.book.nodes old.book.wait old.book.base old.book.entries (e ∷ []) ∙
      ap (λ ns. notices_in old.book old.book.entries ++ ns) (one-notices old.book.nodes old.book.wait
      (state_after old.book.nodes old.book.wait old.book.base old.book.entries) e))
      ∙ (λ i. notices_from (sym applied.nodes i) (sym applied.wait i) (sym applied.base i) (sym applied.entries i)) in
      record {
        book = kept;
        first = small;
        told = (
          subst (λ t. Appends old.opened.sink.written now.sink.written t)
              (sym (entries_text-push old.proof old.book book lane command reply desk.first applied))
              (Appends-trans old.opened.sink.written old.now.sink.written now.sink.written (entries_text old.proof old.book) more before.0 wrote),
          subst (λ ns. HaveHeard ns old.opened.notifiers now.notifiers) all
              (all-heard-more (notices_in old.book old.book.entries) mine old.opened.notifiers old.now.notifiers now.notifiers before.1 heard),
        );
        never_falls = omega (arith, falls, desk.never_falls);
      }

  -- a fault broke the text off
  desk-broken : (fault : ReportFault) → AppendsPart old.now.sink.written now.sink.written more → old.now.sink.faults ≤ now.sink.faults
      → (fault ≡ WriteFault → Rose old.now.sink.faults now.sink.faults) → now.notifiers ≡ old.now.notifiers
      → IsDesk (record { book = book; proof = old.proof; opened = old.opened; now = now; fault = Some fault })
  desk-broken fault part falls rose same =
      let front_text : List ℕ = text_of old.proof old.book old.book.entries in
      record {
        book = kept;
        first = small;
        told = record {
          front = old.book.entries;
          last = e;
          entries = applied.entries;
          part = part.0;
          short = subst (λ n. part.0 < length (entry_text old.proof (next_position n old.book.entries) e)) (sym applied.first) part.1;
          text =
              subst (λ n. Appends old.opened.sink.written now.sink.written (lines_text (entries_lines old.proof n old.book.entries) ++ take part.0
              (entry_text old.proof (next_position n old.book.entries) e))) (sym applied.first)
              (Appends-trans old.opened.sink.written old.now.sink.written now.sink.written front_text (take part.0 more) before.0 part.2);
          told = subst (λ ns. HaveHeard ns old.opened.notifiers now.notifiers) (sym old-notices)
              (subst (λ ns. HaveHeard (notices_in old.book old.book.entries) old.opened.notifiers ns) (sym same) before.1);
          fault = λ is. (let risen : Rose old.now.sink.faults now.sink.faults = rose is in omega (arith, risen, desk.never_falls));
        };
        never_falls = omega (arith, falls, desk.never_falls);
      }

  -- the desk is one after a command that was taken
  pub desk-entered : (notices : List Notice) → notices ≡ entry_notices old.book.state command Closed → old.now.sink.faults ≤ now.sink.faults
      → (fault : Option ReportFault) → WroteLast fault more notices reply old.now now → IsDesk
      (record { book = book; proof = old.proof; opened = old.opened; now = now; fault = fault })
  desk-entered notices is falls None w = desk-told w.0 falls notices is w.1
  desk-entered notices is falls (Some fault) w = desk-broken fault w.0 falls w.1 w.2

-- and what its reply shows
pub desk-replied : (old new : DeskView) (lane : ℕ) (command : Command) (reply : Reply) (snapshot : Option Batch)
    → IsBook old.book → IsBook new.book → IsApplied old.book lane command reply new.book → snapshot ≡ snapshot_before old.book.wait old.book.state command
    → new.proof ≡ old.proof → new.opened ≡ old.opened → HasEntered old lane command (record { reply = reply; snapshot = snapshot }) new
desk-replied old new lane command reply snapshot book kept applied is proof opened = record {
  applied = applied;
  fits = applied-fits old.book new.book lane command reply snapshot kept applied is;
  calls = applied-call old.book new.book lane command reply snapshot book applied is;
  proof = proof;
  opened = opened;
}

pub none_of : {A : Type 0} (o : Option A) → is_some o ≡ false → o ≡ None
none_of None e = refl
none_of (Some x) e = absurd (false≢true (sym e))

-- there are as many calls as entries
pub log-length : (d : DeskView) → length (desk_log d) ≡ length d.book.entries
log-length d = length-map (log_of d.book) desk_call ∙ calls-length d.book.nodes d.book.wait d.book.base d.book.entries

pub log-short : {A E : Type 0} (r : Result A E) (d : DeskView) → OnOk r (length d.book.entries < 2 ^ 63) → OnOk r (length (desk_log d) < 2 ^ 63)
log-short (Ok x) d h = omega (arith, h, log-length d)
log-short (Err e) d h = h

-- one call more, of the lane that plays it
pub log-more : (old new : DeskView) (lane of : ℕ) (command : Command) (reply : LockedReply) → lane ≡ pass_of of → HasEntered old of command reply new
    → desk_log new ≡ desk_log old ++ (record { lane = lane; call = record { lane = of; command = command }; reply = reply }) ∷ []
log-more old new lane of command reply is entered =
    ap (map desk_call) entered.calls ∙ map-append desk_call (log_of old.book) ((record { lane = of; call = command; reply = reply }) ∷ [])
    ∙ ap (λ (l : ℕ). desk_log old ++ (record { lane = l; call = record { lane = of; command = command }; reply = reply }) ∷ []) (sym is)

-- the last of entries
pub last-is : (es before : List Entry) (last e : Entry) → es ≡ before ++ last ∷ [] → e ≡ get_or es (length es - 1) e → e ≡ last
last-is es before last e is at = at ∙ ap (λ (l : List Entry). get_or l (length l - 1) e) is ∙
    get_or_push before last e (length (before ++ last ∷ []) - 1) (omega (arith, length_push before last))
