-- Where an audit stands, and what it says there.
use Rattle.std.specs.Prelude.{◌≡◌, ◌≢◌, ◌↔◌, ℕ, ◌<◌, ◌+◌, ◌-◌, ◌^◌, ◌==◌, true, false, Bool, IsTrue, List, [], ◌∷◌, ◌++◌, length, take, min, count_by, codes, decimal, Option, None, option_map}
use Rattle.std.specs.List.{All}
use Rattle.request_book.specs.values.Batch.{Batch}
use Rattle.request_book.specs.values.Kept.{IsFleet}
use Rattle.request_book.specs.declared.values.vehicle.Vehicle.{Vehicle}
use Rattle.report_audit.specs.block.Block.{BeginsWithGood, Refuses}
use Rattle.report_audit.specs.declared.block.refusal.BlockRefusal.{BlockRefusal}
use Rattle.report_audit.specs.declared.block.refusal.BlockRefusal.TheVariants as refusal
use Rattle.dispatch_engine.specs.lanes.Progress.{AreDone, HaveCome, IsNext, progress_at}
use Rattle.dispatch_engine.specs.lanes.Run.{journal_of, state_after_run}
use Rattle.dispatch_engine.specs.declared.lanes.lane_progress.LaneProgress.{LaneProgress}
use Rattle.dispatch_report.specs.Entry.{entry_line}
use Rattle.dispatch_report.specs.Fits.{IsCommand, IsReply}
use Rattle.dispatch_report.specs.Round.{round_text}
use Rattle.dispatch_report.specs.Words.{numbered, spaced}
use Rattle.report_audit.specs.lines.HeadFault.{sizes_of}
use Rattle.report_audit.specs.lines.HeadLines.{AreSizes}
use Rattle.report_audit.specs.lines.Next.{IsNextLine}
use Rattle.report_audit.specs.lines.Settings.{AreSettingsOf}
use Rattle.report_audit.specs.declared.lines.head_fault.HeadFault.{HeadFault}
use Rattle.report_audit.specs.declared.lines.head_fault.HeadFault.TheVariants as head
use Rattle.report_audit.specs.declared.lines.next.NextLine.{NextLine}
use Rattle.request_book.specs.Book.{BookView, IsApplied, IsBook, next_position, opening}
use Rattle.request_book.specs.register.Step.{step}
use Rattle.request_book.specs.declared.values.command.Command.{Command}
use Rattle.request_book.specs.declared.values.command.Command.TheVariants.{Close}
use Rattle.request_book.specs.declared.values.journal.Entry.{Entry}
use Rattle.request_book.specs.declared.values.outcome.Outcome.{Outcome}
use Rattle.request_book.specs.declared.values.reply.Reply.{Reply}
use Rattle.request_book.specs.declared.values.reply.Reply.TheVariants.{Closed}
use Rattle.rider_limits.specs.declared.settings.Settings.{Settings}
use Rattle.road_network.specs.Roads.{Roads}
use Rattle.input_rows.specs.script.Round.{IsRound, NumberedLanes, lane_at}
use Rattle.dispatch_engine.specs.lanes.Locked.{snapshot_before}
use Rattle.report_audit.specs.report.Fault.{HasFault}
use Rattle.report_audit.specs.report.Place.{BeginsRound, Extent, IsRightBetween, IsRightUpTo, MayFollow, position_behind}
use Rattle.report_audit.specs.report.Report.{batches_after}
use Rattle.report_audit.specs.declared.report.fault.AuditFault.{AuditFault}
use Rattle.report_audit.specs.declared.report.fault.AuditFault.TheVariants as fault
use Rattle.report_audit.specs.work.report.Place.{entries_text, with_entry}

-- what the network, the fleet and the rounds of an audit keep
pub record IsGiven (roads : Roads) (vehicles : List Vehicle) (rounds : List NumberedLanes) : Type 0 where
  pub sizes : AreSizes (sizes_of roads)
  pub fleet : IsFleet vehicles
  pub kept : All IsRound rounds

-- the fault of a head
abbrev pub fault_of_head : HeadFault → AuditFault
fault_of_head (head.Cut n) = fault.Cut n
fault_of_head (head.Form n) = fault.Form n
fault_of_head (head.Head n) = fault.Head n

-- the number of the line with which the rest of a report begins
abbrev pub line_left : List ℕ → List ℕ → ℕ
line_left report rest = count_by (λ c. c == 10) (take (length report - length rest) report) + 1

-- a report that is right up to the place before this rest has the fault
abbrev pub IsFaultAt : Settings → Roads → List ℕ → Extent → List ℕ → AuditFault → Type 0
IsFaultAt settings roads report place rest fault = (vehicles : List Vehicle) (rounds : List NumberedLanes) (workers : ℕ) (read : List ℕ)
    → AreSettingsOf workers settings → report ≡ read ++ rest → IsRightUpTo settings roads vehicles rounds place read → HasFault roads vehicles rounds workers report fault

-- a line must follow
abbrev pub IsOpen : Extent → Type 0
IsOpen Extent.finished = ⊥
IsOpen _ = Unit {0}

-- this alone may follow before these rounds
abbrev pub OnlyFollows : NextLine → List NumberedLanes → ℕ → Type 0
OnlyFollows expected later position = (settings : Settings) (roads : Roads) (before : List NumberedLanes) (line : List ℕ) → MayFollow settings roads (Extent.between before later position) line → IsNextLine expected line

-- the book is that of these roads and settings
pub record IsBookOf (settings : Settings) (roads : Roads) (b : BookView) : Type 0 where
  pub nodes : b.nodes ≡ roads.nodes
  pub wait : b.wait ≡ settings.wait
  pub kept : IsBook b
  pub low : b.first < 2 ^ 64

-- lane 0 waits for the close of the batch that is sealed, and no other lane waits for one
pub record Waits (lanes : List LaneProgress) (sealed : Option Batch) : Type 0 where
  pub first : (progress_at lanes 0).pending ≡ option_map (λ b. b.number) sealed
  pub others : (lane : ℕ) → lane ≢ 0 → (progress_at lanes lane).pending ≡ None

-- what an audit keeps within a round
pub record IsWithin (settings : Settings) (roads : Roads) (round : NumberedLanes) (b : BookView) (lanes : List LaneProgress) (open_batch : Option Batch) : Type 0 where
  pub book : IsBookOf settings roads b
  pub round_kept : IsRound round
  pub begins : BeginsRound settings roads round (journal_of b)
  pub sixteen : length lanes ≡ 16
  pub come : HaveCome round lanes b.entries
  pub waits : Waits lanes b.state.sealed
  pub is_open : open_batch ≡ b.state.sealed

-- the line isn't that of the lane's next command and the book's reply
abbrev pub IsOtherLine : NumberedLanes → List LaneProgress → BookView → ℕ → List ℕ → Type 0
IsOtherLine round lanes old lane line = (command : Command) → IsNext (lane_at round lane) (progress_at lanes lane) command
    → line ≢ entry_line (next_position old.first old.entries) (record { lane = lane; command = command; reply = (step old.nodes old.wait old.state command).1 })

-- the line is that of the lane's next command and the book's reply, and the command was taken into the book
pub record TakesCommand (round : NumberedLanes) (lanes : List LaneProgress) (old : BookView) (lane : ℕ) (line : List ℕ) (new : BookView) (sealed : Option Batch) (reply : Reply) : Type 0 where
  pub command : Command
  pub next : IsNext (lane_at round lane) (progress_at lanes lane) command
  pub command_fits : IsCommand command
  pub reply_fits : IsReply reply
  pub applied : IsApplied old lane command reply new
  pub line_is : line ≡ entry_line (next_position old.first old.entries) (record { lane = lane; command = command; reply = reply })
  pub sealed_is : sealed ≡ snapshot_before old.wait old.state command

-- the line of a close of this batch that was answered `closed`
abbrev pub close_line : ℕ → ℕ → ℕ → List ℕ
close_line position lane batch = decimal position ++ spaced lane ++ codes " " ++ numbered (codes "close ") batch ++ codes " " ++ codes "closed"

-- the line is that of the batch's close, its block stands first behind it, and the close was taken into the book
pub record TakesClose (settings : Settings) (roads : Roads) (old : BookView) (batch : Batch) (lane : ℕ) (line after rest : List ℕ) (new : BookView) : Type 0 where
  pub low : batch.number < 2 ^ 64
  pub line_is : line ≡ close_line (next_position old.first old.entries) lane batch.number
  pub outcome : Outcome
  pub good : BeginsWithGood settings roads batch after outcome rest
  pub applied : IsApplied old lane (Close batch.number outcome) Closed new

-- the line is that of the batch's close, and no good outcome's block stands behind it
abbrev pub BlockRefuses : Settings → Roads → BookView → Batch → ℕ → List ℕ → List ℕ → BlockRefusal → Type 0
BlockRefuses settings roads old batch lane line after refused = refused ≢ refusal.OutOfMemory
    → (batch.number < 2 ^ 64) × (line ≡ close_line (next_position old.first old.entries) lane batch.number) × Refuses settings roads batch after refused

-- an entry was read, the text is shorter, and what an audit keeps within a round holds behind it
pub record EntryRead (settings : Settings) (roads : Roads) (round : NumberedLanes) (old new : BookView) (lanes : List LaneProgress) (open_batch : Option Batch) (text rest : List ℕ) : Type 0 where
  pub within : IsWithin settings roads round new lanes open_batch
  pub entry : Entry
  pub journal : journal_of new ≡ with_entry (journal_of old) entry
  pub printed : text ≡ entries_text (position_behind (journal_of old)) (entry ∷ []) ++ rest
  pub shorter : length rest < length text

-- the book has no entries, and no batch of it waits for its close
pub record IsRoundStart (settings : Settings) (roads : Roads) (b : BookView) : Type 0 where
  pub book : IsBookOf settings roads b
  pub empty : b.entries ≡ []
  pub closed : b.state.sealed ≡ None

-- an audit stands within a round that began with the old book and this text
pub record IsInRound (settings : Settings) (roads : Roads) (round : NumberedLanes) (old b : BookView) (lanes : List LaneProgress) (open_batch : Option Batch) (text rest : List ℕ) : Type 0 where
  pub within : IsWithin settings roads round b lanes open_batch
  pub first : b.first ≡ old.first
  pub base : b.base ≡ old.state
  pub printed : text ≡ round_text round.number true (journal_of b) ++ rest

-- all entries of the round were read
abbrev pub IsThrough : Settings → Roads → NumberedLanes → BookView → BookView → List ℕ → List ℕ → Type 0
IsThrough settings roads round old b text rest = (lanes : List LaneProgress) × (open_batch : Option Batch) × IsInRound settings roads round old b lanes open_batch text rest × AreDone round lanes

-- an audit stands between rounds, behind the first of them or before it: the report is right up to this text, and the book
-- is behind the rounds that were read
pub record IsBetween (settings : Settings) (roads : Roads) (report : List ℕ) (vehicles : List Vehicle) (rounds : List NumberedLanes) (workers : ℕ) (before later : List NumberedLanes)
    (first : Bool) (b : BookView) (text : List ℕ) (batches : ℕ) : Type 0 where
  pub audited : AreSettingsOf workers settings
  pub read : List ℕ
  pub whole : report ≡ read ++ text
  pub right : IsRightBetween settings roads vehicles rounds before later b.first read
  pub start : IsRoundStart settings roads b
  pub state : b.state ≡ state_after_run settings roads (opening vehicles) right.made
  pub counted : batches ≡ batches_after 0 right.made
  pub is_first : IsTrue first ↔ (before ≡ [])

-- from where an audit stands before a round it comes to behind it
abbrev pub RoundRead : Settings → Roads → List ℕ → NumberedLanes → BookView → List ℕ → Bool → BookView → List ℕ → ℕ → Type 0
RoundRead settings roads report round old text first new rest batches = (vehicles : List Vehicle) (rounds : List NumberedLanes) (workers : ℕ) (before later : List NumberedLanes) (count : ℕ)
    → IsBetween settings roads report vehicles rounds workers before (round ∷ later) first old text count
    → IsBetween settings roads report vehicles rounds workers (before ++ round ∷ []) later false new rest (min (count + batches) (2 ^ 64 - 1))

-- the report fails at the round or within it
abbrev pub RoundFails : Settings → Roads → List ℕ → NumberedLanes → BookView → List ℕ → Bool → AuditFault → Type 0
RoundFails settings roads report round old text first fault = (vehicles : List Vehicle) (rounds : List NumberedLanes) (workers : ℕ) (before later : List NumberedLanes) (count : ℕ)
    → IsBetween settings roads report vehicles rounds workers before (round ∷ later) first old text count → HasFault roads vehicles rounds workers report fault

-- the book has no entries, and is behind no round
pub record IsOpened (settings : Settings) (roads : Roads) (vehicles : List Vehicle) (b : BookView) : Type 0 where
  pub start : IsRoundStart settings roads b
  pub state : b.state ≡ opening vehicles
  pub first : b.first ≡ 0
