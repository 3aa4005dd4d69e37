-- What stands of a run between two rows, and what a row or a batch adds.
use Rattle.std.specs.Prelude.{◌≡◌, ℕ, ◌<◌, ◌≤◌, ◌^◌, Bool, List, [], ◌∷◌, ◌++◌, Option, None, Some, Result, Ok, Err, OnOk, MatchResult, true}
use Rattle.std.specs.Result.{IsErrOf}
use Rattle.std.specs.Io.KnownBytes.{Appends}
use Rattle.request_book.specs.values.Batch.{Batch}
use Rattle.dispatch_engine.specs.lanes.Run.{IsReady, IsRun, position_after_run, state_after_run}
use Rattle.dispatch_report.specs.Round.{entry_text}
use Rattle.pool_io.specs.Views.{Change, SinkView}
use Rattle.dispatch_report.specs.declared.fault.ReportFault.{ReportFault}
use Rattle.dispatch_report.specs.declared.fault.ReportFault.TheVariants as report
use Rattle.live_dispatch.specs.Phase.{HasRunOpen, desk_after}
use Rattle.live_dispatch.specs.declared.read_on.Halt.{Halt}
use Rattle.live_dispatch.specs.Desk.{desk_of, OutputsView}
use Rattle.input_rows.specs.live.Rows.{GivesRow, TakesRows}
use Rattle.input_rows.specs.declared.live.lines.LineFault.{LineFault}
use Rattle.input_rows.specs.declared.live.lines.LineFault.TheVariants as line
use Rattle.pool_io.specs.Faults.{Rose}
use Rattle.request_book.specs.Book.{BookView, IsApplied, next_position}
use Rattle.request_book.specs.register.Step.{step}
use Rattle.request_book.specs.declared.values.command.Command.{Command}
use Rattle.request_book.specs.declared.values.journal.Entry.{Entry}
use Rattle.request_book.specs.declared.values.journal.Journal.{Journal}
use Rattle.request_book.specs.declared.values.reply.Reply.{Reply}
use Rattle.rider_limits.specs.declared.settings.Settings.{Settings}
use Rattle.request_book.specs.notices.Told.{HaveHeard, NotifierView}
use Rattle.road_network.specs.Roads.{Roads}
use Rattle.input_rows.specs.script.ScriptRow.{IsBehind}
use Rattle.input_rows.specs.declared.script.script_row.ScriptRow.{ScriptRow}
use Rattle.input_rows.specs.lemmas.script.Named.{rounds_of}
use Rattle.dispatch_engine.specs.lanes.Locked.{Fits, snapshot_before}
use Rattle.live_dispatch.specs.Live.{BeginsRows, journals_notices, journals_text, RunsRows}
use Rattle.live_dispatch.specs.declared.fault.LiveFault.{LiveFault}
use Rattle.live_dispatch.specs.declared.fault.LiveFault.TheVariants as live
use Rattle.live_dispatch.specs.work.Rows.{EndsIn, last_of, start_text}

-- what is seen of a run between two rows: its book, the round of the last row, its rows to come, how many reads failed, its
-- sink and its notifiers
pub record Moment : Type 0 where
  pub book : BookView
  pub round : Option ℕ
  pub rows : Option (List ScriptRow)
  pub reads : ℕ
  pub sink : SinkView
  pub notifiers : List NotifierView

-- by its parts
abbrev pub moment : BookView → Option ℕ → Option (List ScriptRow) → ℕ → OutputsView → Moment
moment book round rows reads outputs = record { book = book; round = round; rows = rows; reads = reads; sink = outputs.sink; notifiers = outputs.notifiers }

-- where its report and its notices go
abbrev pub outputs_of : Moment → OutputsView
outputs_of m = record { sink = m.sink; notifiers = m.notifiers }

-- the rows were taken from those to come, but for one that is held
abbrev pub HaveCome : Moment → Moment → Option ScriptRow → List ScriptRow → Type 0
HaveCome start now None lines = TakesRows start.rows now.rows lines
HaveCome start now (Some row) lines = TakesRows start.rows now.rows (lines ++ row ∷ [])

-- the row that is held stands behind the last, and is the last that came
abbrev pub Awaits : ℕ → ℕ → Option ScriptRow → Type 0
Awaits last came None = came ≡ last
Awaits last came (Some row) = IsBehind last row × (came ≡ row.round)

-- the row that was held, or the next that came
abbrev pub GivesNext : Option ScriptRow → Option (List ScriptRow) → Option (List ScriptRow) → Option ScriptRow → Type 0
GivesNext None old new row = GivesRow old new row
GivesNext (Some held) old new row = (row ≡ Some held) × (new ≡ old)

-- the fault of a report, of a line, and how writing ended
abbrev pub of_report : ReportFault → LiveFault
of_report report.WriteFault = live.WriteFault
of_report report.OutOfMemory = live.OutOfMemory

abbrev pub of_line : LineFault → LiveFault
of_line line.ReadFault = live.ReadFault
of_line line.OutOfMemory = live.OutOfMemory

abbrev pub ended_by : Result (Unit {0}) ReportFault → Result (Unit {0}) LiveFault
ended_by (Ok done) = Ok done
ended_by (Err fault) = Err (of_report fault)

-- the entry of a command, with the step's reply
abbrev pub entry_for : BookView → ℕ → Command → Entry
entry_for b lane command = record { lane = lane; command = command; reply = (step b.nodes b.wait b.state command).1 }

-- what a row writes: the line that begins its round, if it does, and its entry
abbrev pub row_text : Bool → Option ℕ → BookView → ScriptRow → List ℕ
row_text proof round b row = start_text round row.round ++ entry_text proof (next_position b.first b.entries) (entry_for b row.lane row.command)

-- the bytes written, where they are told, grow by a beginning of a text
pub record AppendsSome (old new : Option (List ℕ)) (text : List ℕ) : Type 0 where
  pub written : List ℕ
  pub unwritten : List ℕ
  pub parts : written ++ unwritten ≡ text
  pub bytes : Appends old new written

-- a text was written whole, or with a fault a beginning of it
pub record WritesSome {A : Type 0} (sink : Change SinkView) (text : List ℕ) (result : Result A ReportFault) : Type 0 where
  pub bytes : MatchResult result (λ _. Appends sink.before.written sink.after.written text) (λ _. AppendsSome sink.before.written sink.after.written text)
  pub fault : IsErrOf result report.WriteFault → Rose sink.before.faults sink.after.faults
  pub never_falls : sink.before.faults ≤ sink.after.faults

-- the book took the command of a lane, which sealed this batch, if it did one
pub record HasTaken (old : BookView) (lane : ℕ) (command : Command) (sealed : Option Batch) (new : BookView) : Type 0 where
  pub reply : Reply
  pub applied : IsApplied old lane command reply new
  pub fits : Fits old.nodes command (record { reply = reply; snapshot = sealed })
  pub shown : sealed ≡ snapshot_before old.wait old.state command

-- a batch was closed and written whole, and its journal was given up
pub record HasCut (old new : BookView) (closed : Bool) (fault : Option ReportFault) (result : Result (Unit {0}) LiveFault) : Type 0 where
  pub is_closed : OnOk result (closed ≡ true)
  pub whole : OnOk result (fault ≡ None)
  pub cut : OnOk result (new ≡ record { nodes = old.nodes; wait = old.wait; first = next_position old.first old.entries; base = old.state; entries = []; state = old.state; spare = 0 })
  pub write_fault : IsErrOf result live.WriteFault → fault ≡ Some report.WriteFault
  pub no_read : IsErrOf result live.ReadFault → ⊥

module _ (settings : Settings) (roads : Roads) where
  -- from its start rows were run and are written, and their notices were told; no batch waits for its close
  pub record Stands (start now : Moment) (Are : List ScriptRow → Type 0) : Type 0 where
    pub lines : List ScriptRow
    pub are : Are lines
    pub ends : EndsIn lines now.round
    pub journals : List Journal
    pub run : IsRun settings roads start.book.base start.book.first (rounds_of lines) journals
    pub text : Appends start.sink.written now.sink.written (journals_text settings.proof (rounds_of lines) journals)
    pub told : HaveHeard (journals_notices settings roads journals) start.notifiers now.notifiers
    pub state : now.book.state ≡ state_after_run settings roads start.book.base journals
    pub position : next_position now.book.first now.book.entries ≡ position_after_run start.book.first journals
    pub ready : IsReady settings roads now.book
    pub small : start.book.first < 2 ^ 64
    pub writes : start.sink.faults ≤ now.sink.faults
    pub reads : start.reads ≤ now.reads

  -- then a row was run and is written that sealed a batch
  pub record Opens (start : Moment) (row : ScriptRow) (b : Batch) (now : Moment) : Type 0 where
    pub before : Moment
    pub stands : Stands start before (HaveCome start before (Some row))
    pub behind : IsBehind (last_of before.round) row
    pub taken : HasTaken before.book row.lane row.command (Some b) now.book
    pub text : Appends before.sink.written now.sink.written (row_text settings.proof before.round before.book row)
    pub writes : before.sink.faults ≤ now.sink.faults
    pub same : (now.rows ≡ before.rows) × (now.reads ≡ before.reads) × (now.notifiers ≡ before.notifiers)

  -- and the batch was open, from a new journal on, while rows of other lanes were run
  pub record HasRunOn (start : Moment) (b : Batch) (round : ℕ) (book : BookView) (rows : Option (List ScriptRow)) (outputs : OutputsView) (closed : Bool) (stop : Halt) (fault : Option ReportFault) (reads : ℕ) : Type 0 where
    pub row : ScriptRow
    pub number : row.round ≡ round
    pub sealed : Moment
    pub opens : Opens start row b sealed
    pub reads_were : sealed.reads ≡ reads
    pub fresh : BookView
    pub fresh_is : fresh ≡ record { nodes = sealed.book.nodes; wait = sealed.book.wait; first = next_position sealed.book.first sealed.book.entries; base = sealed.book.state; entries = []; state = sealed.book.state; spare = 0 }
    pub ran : HasRunOpen settings roads b round sealed.rows rows (desk_of fresh settings.proof (outputs_of sealed)) (desk_after fresh settings.proof (outputs_of sealed) book outputs fault) closed stop

  -- how a run ended, from its start
  pub record HasEnded (start : Moment) (failed : ℕ) (outputs : OutputsView) (ended : Result (Unit {0}) LiveFault) : Type 0 where
    pub run : MatchResult ended
        (λ _. RunsRows settings roads start.book start.rows (record { before = start.sink; after = outputs.sink }) (record { before = start.notifiers; after = outputs.notifiers }))
        (λ _. BeginsRows settings roads start.book start.rows (record { before = start.sink; after = outputs.sink }) (record { before = start.notifiers; after = outputs.notifiers }))
    pub write_fault : IsErrOf ended live.WriteFault → Rose start.sink.faults outputs.sink.faults
    pub read_fault : IsErrOf ended live.ReadFault → Rose start.reads failed
    pub writes : start.sink.faults ≤ outputs.sink.faults
