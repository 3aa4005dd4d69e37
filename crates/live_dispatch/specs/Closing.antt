-- A batch that was open when a run began, closed by the next entry.
use Rattle.std.specs.Prelude.{◌≡◌, [], ◌∷◌}
use Rattle.std.specs.Io.KnownBytes.{Appends}
use Rattle.dispatch_engine.specs.outcome.Outcome.{IsGoodOutcome}
use Rattle.live_dispatch.specs.Desk.{OutputsView, notices_in, text_of}
use Rattle.live_dispatch.specs.declared.fault.LiveFault.{LiveFault}
use Rattle.live_dispatch.specs.declared.fault.LiveFault.TheVariants.{WriteFault, OutOfMemory}
use Rattle.pool_io.specs.Faults.{Rose}
use Rattle.pool_io.specs.Sink.{AppendsPart}
use Rattle.request_book.specs.Book.{BookView, next_position}
use Rattle.request_book.specs.notices.Told.{HaveHeard}
use Rattle.request_book.specs.register.Step.{step}
use Rattle.request_book.specs.values.Batch.{Batch}
use Rattle.request_book.specs.declared.values.command.Command.TheVariants.{Close}
use Rattle.request_book.specs.declared.values.journal.Entry.{Entry}
use Rattle.request_book.specs.declared.values.outcome.Outcome.{Outcome}
use Rattle.request_book.specs.declared.values.state.State.{State}
use Rattle.rider_limits.specs.declared.settings.Settings.{Settings}
use Rattle.road_network.specs.Roads.{Roads}

-- the entry that closes a batch in lane 0, with the step's reply
abbrev pub closing_entry : BookView → Batch → Outcome → Entry
closing_entry b batch outcome = record { lane = 0; command = Close batch.number outcome; reply = (step b.nodes b.wait b.state (Close batch.number outcome)).1 }

-- the book behind one more entry, with a new journal
abbrev pub book_behind : BookView → Entry → BookView
book_behind b e =
    let next : State = (step b.nodes b.wait b.state e.command).0 in
    record { nodes = b.nodes; wait = b.wait; first = next_position b.first (e ∷ []); base = next; entries = []; state = next; spare = 0 }

module _ (settings : Settings) (roads : Roads) (batch : Batch) (book : BookView) (before after : OutputsView) where
  -- the batch was closed in lane 0 with an outcome that is good for it; the entry is written, and its notices were told
  pub record IsClosedBy (outcome : Outcome) : Type 0 where
    pub good : IsGoodOutcome settings roads batch outcome
    pub text : Appends before.sink.written after.sink.written (text_of settings.proof book (closing_entry book batch outcome ∷ []))
    pub told : HaveHeard (notices_in book (closing_entry book batch outcome ∷ [])) before.notifiers after.notifiers

  -- the same, and this is the book then
  pub record IsClosedTo (next : BookView) : Type 0 where
    pub outcome : Outcome
    pub closed : IsClosedBy outcome
    pub behind : next ≡ book_behind book (closing_entry book batch outcome)

  -- the text of such a close was begun, and broke off before its end; nobody was told anything
  pub record BreaksClose : Type 0 where
    pub outcome : Outcome
    pub good : IsGoodOutcome settings roads batch outcome
    pub text : AppendsPart before.sink.written after.sink.written (text_of settings.proof book (closing_entry book batch outcome ∷ []))
    pub told : HaveHeard [] before.notifiers after.notifiers

  -- why the batch couldn't be closed, and what stands then
  pub data StopsClose : LiveFault → Type 0 where
    unwritten : after ≡ before → StopsClose OutOfMemory
    failed : BreaksClose → Rose before.sink.faults after.sink.faults → StopsClose WriteFault
    broken : BreaksClose → StopsClose OutOfMemory
    written : (outcome : Outcome) → IsClosedBy outcome → StopsClose OutOfMemory
