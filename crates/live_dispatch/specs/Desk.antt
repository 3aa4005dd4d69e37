-- A book whose entries are written as they are made.
use Rattle.seat_lock.specs.declared.logged.LoggedCall.{LoggedCall}
use Rattle.dispatch_engine.specs.lanes.Locked.{log_of, Fits}
use Rattle.dispatch_engine.specs.declared.lanes.locked.LockedReply.{LockedReply}
use Rattle.live_dispatch.specs.declared.desk.LaneCommand.{LaneCommand}
use Rattle.live_dispatch.specs.declared.desk.DeskRoot.{DeskRoot}
use Rattle.std.specs.Prelude.{◌≡◌, ℕ, ◌<◌, ◌≤◌, ◌^◌, ◌==◌, Bool, List, [], ◌∷◌, ◌++◌, map, length, take, Option, None, Some, if◌then◌else◌}
use Rattle.std.specs.Io.KnownBytes.{Appends}
use Rattle.pool_io.specs.Faults.{Rose}
use Rattle.request_book.specs.Book.{BookView, IsApplied, IsBook, IsSameBook, next_position}
use Rattle.request_book.specs.declared.values.command.Command.{Command}
use Rattle.request_book.specs.declared.values.journal.Entry.{Entry}
use Rattle.request_book.specs.notices.Notices.{notices_from}
use Rattle.request_book.specs.notices.Seen.{notifiers_seen}
use Rattle.request_book.specs.notices.Told.{HaveHeard, NotifierView}
use Rattle.request_book.specs.declared.notices.notice.Notice.{Notice}
use Rattle.dispatch_report.specs.Lines.{lines_text}
use Rattle.dispatch_report.specs.Round.{entries_lines, entry_text}
use Rattle.pool_io.specs.Views.{SinkView}
use Rattle.dispatch_report.specs.declared.fault.ReportFault.{ReportFault}
use Rattle.dispatch_report.specs.declared.fault.ReportFault.TheVariants.{WriteFault}

-- where a report goes, and its notices
pub record OutputsView : Type 0 where
  pub sink : SinkView
  pub notifiers : List NotifierView

-- a sink and notifiers, by what their types tell of them
abbrev pub outputs_seen : {K N : Type 0} → (K → Option (List ℕ)) → (K → ℕ) → (N → Option (List Notice)) → (N → ℕ) → (N → ℕ) → K → List N → OutputsView
outputs_seen written faults told failed steady sink notifiers =
    record { sink = record { written = written sink; faults = faults sink }; notifiers = notifiers_seen told failed steady notifiers }

-- the text of entries of a book
abbrev pub text_of : Bool → BookView → List Entry → List ℕ
text_of proof b entries = lines_text (entries_lines proof b.first entries)

-- the text of all its entries
abbrev pub entries_text : Bool → BookView → List ℕ
entries_text proof b = text_of proof b b.entries

-- the notices of the first entries of a book
abbrev pub notices_in : BookView → List Entry → List Notice
notices_in b entries = notices_from b.nodes b.wait b.base entries

-- the text of all entries but the last was written, and a part of the last's; the notices were told of all but the last
pub record BreaksOff (proof : Bool) (b : BookView) (opened now : OutputsView) (why : ReportFault) : Type 0 where
  pub front : List Entry
  pub last : Entry
  pub entries : b.entries ≡ front ++ last ∷ []
  pub part : ℕ
  pub short : part < length (entry_text proof (next_position b.first front) last)
  pub text : Appends opened.sink.written now.sink.written (text_of proof b front ++ take part (entry_text proof (next_position b.first front) last))
  pub told : HaveHeard (notices_in b front) opened.notifiers now.notifiers
  pub fault : why ≡ WriteFault → Rose opened.sink.faults now.sink.faults

-- the text of all entries was written, and their notices were told; or a fault broke it off
abbrev pub IsPassedOn : Option ReportFault → Bool → BookView → OutputsView → OutputsView → Type 0
IsPassedOn None proof b opened now = Appends opened.sink.written now.sink.written (entries_text proof b) × HaveHeard (notices_in b b.entries) opened.notifiers now.notifiers
IsPassedOn (Some fault) proof b opened now = BreaksOff proof b opened now fault

-- what a desk shows: its book, whether trees are printed, its sink and its notifiers when the journal was begun and now,
-- and the fault that stopped it
pub record DeskView : Type 0 where
  pub book : BookView
  pub proof : Bool
  pub opened : OutputsView
  pub now : OutputsView
  pub fault : Option ReportFault

-- what every desk keeps: what its sink and its notifiers have gained since the journal was begun is the text and the
-- notices of its entries
pub record IsDesk (d : DeskView) : Type 0 where
  pub book : IsBook d.book
  pub first : d.book.first < 2 ^ 64
  pub told : IsPassedOn d.fault d.proof d.book d.opened d.now
  pub never_falls : d.opened.sink.faults ≤ d.now.sink.faults

-- which pass plays the commands of a lane: the first those of lane 0, the second all others
abbrev pub pass_of : ℕ → ℕ
pass_of lane = if lane == 0 then 0 else 1

-- a call of the book, as one of the desk
abbrev pub desk_call : LoggedCall Command LockedReply → LoggedCall LaneCommand LockedReply
desk_call c = record { lane = pass_of c.lane; call = record { lane = c.lane; command = c.call }; reply = c.reply }

-- the calls in a desk's journal
abbrev pub desk_log : DeskView → List (LoggedCall LaneCommand LockedReply)
desk_log d = map desk_call (log_of d.book)

-- what no call changes
abbrev pub desk_root : DeskView → DeskRoot
desk_root d = record { nodes = d.book.nodes; wait = d.book.wait; first = d.book.first; base = d.book.base; proof = d.proof }

-- the same book, sink, notifiers and journal
pub record IsSameDesk (old new : DeskView) : Type 0 where
  pub book : IsSameBook old.book new.book
  pub proof : new.proof ≡ old.proof
  pub opened : new.opened ≡ old.opened
  pub now : new.now ≡ old.now
  pub fault : new.fault ≡ old.fault

-- a command was taken, and its reply shows the batch that it sealed
pub record HasEntered (old : DeskView) (lane : ℕ) (command : Command) (reply : LockedReply) (new : DeskView) : Type 0 where
  pub applied : IsApplied old.book lane command reply.reply new.book
  pub fits : Fits old.book.nodes command reply
  pub calls : log_of new.book ≡ log_of old.book ++ (record { lane = lane; call = command; reply = reply }) ∷ []
  pub proof : new.proof ≡ old.proof
  pub opened : new.opened ≡ old.opened

-- a desk with nothing written
abbrev pub desk_of : BookView → Bool → OutputsView → DeskView
desk_of book proof outputs = record { book = book; proof = proof; opened = outputs; now = outputs; fault = None }
