-- A close at a desk of its own, as the close of a batch that was open.
use Rattle.std.proofs.Common.{
  ◌≡◌,
  ℕ,
  ◌<◌,
  Bool,
  true,
  false,
  List,
  [],
  ◌∷◌,
  ◌++◌,
  length,
  take,
  Option,
  None,
  Some,
  Ok,
  Err,
  ◌^◌,
  arith,
  refl,
  sym,
  ap,
  subst,
  ◌∙◌,
}
use Rattle.live_dispatch.proofs.Common.{
  Appends,
  Batch,
  BookView,
  HasCut,
  LiveFault,
  OutputsView,
  ReportFault,
  Rose,
  lines_text,
  notices_from,
  next_position,
  Close,
  Command,
  Entry,
  Settings,
  HaveHeard,
  Roads,
  State,
  entry_text,
  one-text,
  step,
  desk_of,
  notices_in,
  text_of,
}
use Rattle.dispatch_engine.specs.declared.lanes.locked.LockedReply.{LockedReply}
use Rattle.dispatch_engine.specs.outcome.Outcome.{IsGoodOutcome}
use Rattle.live_dispatch.specs.Closing.{BreaksClose, IsClosedBy, IsClosedTo, StopsClose, book_behind, closing_entry}
use Rattle.live_dispatch.specs.Desk.{BreaksOff, DeskView, HasEntered, IsDesk, IsPassedOn, IsSameDesk}
use Rattle.live_dispatch.specs.work.Closing.{HasEnteredOr}
use Rattle.live_dispatch.specs.declared.fault.LiveFault.TheVariants as live
use Rattle.dispatch_report.specs.Round.{entries_lines}
use Rattle.dispatch_report.specs.declared.fault.ReportFault.TheVariants.{WriteFault}
use Rattle.request_book.specs.Book.{IsApplied}
use Rattle.request_book.specs.declared.values.outcome.Outcome.{Outcome}
use Rattle.request_book.specs.declared.values.reply.Reply.{Reply}

next-none : (p : ℕ) → p < 2 ^ 64 → next_position p [] ≡ p
next-none p low = omega arith

-- one entry is the last of entries alone
none-before : (e last : Entry) (front : List Entry) → e ∷ [] ≡ front ++ last ∷ [] → front ≡ []
none-before e last [] is = refl
none-before e last (x ∷ []) is = absurd cc
none-before e last (x ∷ y ∷ front) is = absurd cc

one-last : (e last : Entry) → e ∷ [] ≡ last ∷ [] → last ≡ e
one-last e last is = cc

module _ (settings : Settings) (roads : Roads) (batch : Batch) (outcome : Outcome) (book : BookView) (before : OutputsView)
    (good : IsGoodOutcome settings roads batch outcome) (none : book.entries ≡ []) (fresh : book.state ≡ book.base) where
  abbrev close : Command
  close = Close batch.number outcome

  abbrev e : Entry
  e = closing_entry book batch outcome

  abbrev start : DeskView
  start = desk_of book settings.proof before

  -- the desk's journal is the close
  module _ (got : DeskView) (reply : LockedReply) (entered : HasEntered start 0 close reply got) (kept : IsDesk got) where
    entries_are : got.book.entries ≡ e ∷ []
    entries_are =
        let a : IsApplied book 0 close reply.reply got.book = entered.applied in
        let is : reply.reply ≡ e.reply = ap (λ (p : State × Reply). p.1) a.stepped in
        a.entries ∙ ap (λ es. es ++ (record { lane = 0; command = close; reply = reply.reply }) ∷ []) none ∙
        ap (λ (r : Reply). (record { lane = 0; command = close; reply = r }) ∷ []) is

    text_is : (es : List Entry) → lines_text (entries_lines got.proof got.book.first es) ≡ text_of settings.proof book es
    text_is es = λ i. lines_text (entries_lines (entered.proof i) (entered.applied.first i) es)

    notices_are : (es : List Entry) → notices_in got.book es ≡ notices_in book es
    notices_are es = λ i. notices_from (entered.applied.nodes i) (entered.applied.wait i) (entered.applied.base i) es

    -- all is written
    whole : got.fault ≡ None → IsClosedBy settings roads batch book before got.now outcome
    whole faultless =
        let told : IsPassedOn None got.proof got.book got.opened got.now = subst (λ (f : Option ReportFault). IsPassedOn f got.proof got.book got.opened
        got.now) faultless kept.told in
        record {
          good = good;
          text = subst (λ (o : OutputsView). Appends o.sink.written got.now.sink.written (text_of settings.proof book (e ∷ []))) entered.opened
              (subst (λ t. Appends got.opened.sink.written got.now.sink.written t) (text_is got.book.entries ∙ ap (text_of settings.proof book) entries_are)
              told.0);
          told = subst (λ (o : OutputsView). HaveHeard (notices_in book (e ∷ [])) o.notifiers got.now.notifiers) entered.opened
              (subst (λ ns. HaveHeard ns got.opened.notifiers got.now.notifiers) (notices_are got.book.entries ∙ ap (notices_in book) entries_are) told.1);
        }

    -- a fault broke it off
    module _ (fault : ReportFault) (off : BreaksOff got.proof got.book got.opened got.now fault) where
      alone : off.front ≡ []
      alone = none-before e off.last off.front (sym entries_are ∙ off.entries)

      last_is : off.last ≡ e
      last_is = one-last e off.last (sym entries_are ∙ off.entries ∙ ap (λ es. es ++ off.last ∷ []) alone)

      same_text : entry_text got.proof (next_position got.book.first off.front) off.last ≡ text_of settings.proof book (e ∷ [])
      same_text =
          (λ i. entry_text got.proof (next_position got.book.first (alone i)) (last_is i)) ∙ ap (λ p. entry_text got.proof p e)
          (next-none got.book.first kept.first)
          ∙ sym (one-text got.proof got.book.first e) ∙ text_is (e ∷ [])

      no_text : text_of got.proof got.book off.front ≡ []
      unfolding entries_lines lines_text
      no_text = ap (text_of got.proof got.book) alone

      no_notices : notices_in got.book off.front ≡ []
      unfolding notices_from
      no_notices = ap (notices_in got.book) alone

      breaks : BreaksClose settings roads batch book before got.now
      breaks = record {
        outcome = outcome;
        good = good;
        text = (
          off.part,
          subst (λ t. off.part < length t) same_text off.short,
          subst (λ (o : OutputsView). Appends o.sink.written got.now.sink.written (take off.part (text_of settings.proof book (e ∷ [])))) entered.opened
              (subst (λ t. Appends got.opened.sink.written got.now.sink.written t) (λ i. no_text i ++ take off.part (same_text i)) off.text),
        );
        told = subst (λ (o : OutputsView). HaveHeard [] o.notifiers got.now.notifiers) entered.opened
            (subst (λ ns. HaveHeard ns got.opened.notifiers got.now.notifiers) no_notices off.told);
      }

      rises : fault ≡ WriteFault → Rose before.sink.faults got.now.sink.faults
      rises is = subst (λ (o : OutputsView). Rose o.sink.faults got.now.sink.faults) entered.opened (off.fault is)

    off-of : (fault : ReportFault) → got.fault ≡ Some fault → BreaksOff got.proof got.book got.opened got.now fault
    off-of fault is = subst (λ (f : Option ReportFault). IsPassedOn f got.proof got.book got.opened got.now) is kept.told

    -- why the batch isn't closed
    stopped : (fault : Option ReportFault) → got.fault ≡ fault → (why : LiveFault) → (why ≡ live.WriteFault → fault ≡ Some WriteFault) →
        (why ≡ live.ReadFault → ⊥)
        → StopsClose settings roads batch book before got.now why
    stopped fault is live.ReadFault write read = absurd (read refl)
    stopped None is live.WriteFault write read = absurd (let e : None ≡ Some WriteFault = write refl in cc)
    stopped None is live.OutOfMemory write read = StopsClose.written outcome (whole is)
    stopped (Some fault) is live.WriteFault write read =
        let off = off-of fault is in
        StopsClose.failed (breaks fault off) (rises fault off (let e : Some fault ≡ Some WriteFault = write refl in cc))
    stopped (Some fault) is live.OutOfMemory write read = StopsClose.broken (breaks fault (off-of fault is))

    -- the book behind it
    behind : (next : BookView)
        → next ≡ record {
          nodes = got.book.nodes;
          wait = got.book.wait;
          first = next_position got.book.first got.book.entries;
          base = got.book.state;
          entries =
              [];
          state = got.book.state;
          spare = 0;
        }
        → next ≡ book_behind book e
    behind next is =
        let a : IsApplied book 0 close reply.reply got.book = entered.applied in
        let state : got.book.state ≡ (step book.nodes book.wait book.state close).0 = ap (λ (p : State × Reply). p.0) a.stepped in
        is ∙ (λ i. record {
          nodes = a.nodes i;
          wait = a.wait i;
          first = next_position (a.first i) (entries_are i);
          base = state i;
          entries = [];
          state =
              state i;
          spare = 0;
        })

  -- what came of it, by the parts of the desk
  abbrev cut_of : BookView → BookView
  cut_of b = record { nodes = b.nodes; wait = b.wait; first = next_position b.first b.entries; base = b.state; entries = []; state = b.state; spare = 0 }

  module _ (desk got : DeskView) (entered : Bool) (cut next : BookView) (from now : OutputsView) (fault : Option ReportFault)
      (desk_is : desk ≡ start) (enters : HasEnteredOr entered desk close got) (kept : IsDesk got)
      (parts : got ≡ record { book = cut; proof = got.proof; opened = from; now = now; fault = fault }) where
    pub closed-to : (done : Unit {0}) → HasCut cut next entered fault (Ok done) → IsClosedTo settings roads batch book before now next
    closed-to done c = by entered enters c.is_closed
      where
        by : (b : Bool) → HasEnteredOr b desk close got → b ≡ true → IsClosedTo settings roads batch book before now next
        by false same is = absurd cc
        by true (reply, had) is =
            let had_start : HasEntered start 0 close reply got = subst (λ (d : DeskView). HasEntered d 0 close reply got) desk_is had in
            let w = whole got reply had_start kept (ap (λ (d : DeskView). d.fault) parts ∙ c.whole) in
            record {
              outcome = outcome;
              closed = subst (λ (o : OutputsView). IsClosedBy settings roads batch book before o outcome) (ap (λ (d : DeskView). d.now) parts) w;
              behind = behind got reply had_start kept next (c.cut ∙ ap cut_of (sym (ap (λ (d : DeskView). d.book) parts)));
            }

    pub close-stopped : (why : LiveFault) → HasCut cut next entered fault (Err why) → StopsClose settings roads batch book before now why
    close-stopped why c = subst (λ (o : OutputsView). StopsClose settings roads batch book before o why) (ap (λ (d : DeskView). d.now) parts)
        (by entered enters)
      where
        written : why ≡ live.WriteFault → got.fault ≡ Some WriteFault
        written is = ap (λ (d : DeskView). d.fault) parts ∙ c.write_fault (ap Err is)

        unentered : (f : LiveFault) → IsSameDesk start got → (f ≡ live.WriteFault → got.fault ≡ Some WriteFault) → (f ≡ live.ReadFault → ⊥) →
            StopsClose settings roads batch book before got.now f
        unentered live.ReadFault same write read = absurd (read refl)
        unentered live.WriteFault same write read = absurd (let e : None ≡ Some WriteFault = sym same.fault ∙ write refl in cc)
        unentered live.OutOfMemory same write read = StopsClose.unwritten same.now

        by : (b : Bool) → HasEnteredOr b desk close got → StopsClose settings roads batch book before got.now why
        by true (reply, had) =
            stopped got reply (subst (λ (d : DeskView). HasEntered d 0 close reply got) desk_is had) kept got.fault refl why written
            (λ is. c.no_read (ap Err is))
        by false same =
            unentered why (subst (λ (d : DeskView). IsSameDesk d got) desk_is same) written (λ is. c.no_read (ap Err is))
