-- What one item adds to a reading.
use Rattle.std.specs.Prelude.{◌≡◌, ℕ, ◌<◌, Bool, true, List, [], ◌++◌, Option, None}
use Rattle.dispatch_engine.specs.lanes.Lane.{last_sealed}
use Rattle.dispatch_engine.specs.lanes.Locked.{snapshot_before}
use Rattle.dispatch_engine.specs.outcome.Outcome.{IsGoodOutcome}
use Rattle.dispatch_report.specs.Block.{block_lines}
use Rattle.dispatch_report.specs.Entry.{entry_line}
use Rattle.dispatch_report.specs.Lines.{lines_text}
use Rattle.input_rows.specs.script.Round.{MayStand}
use Rattle.report_audit.specs.block.Block.{BeginsWithGood}
use Rattle.report_audit.specs.lines.Next.{IsEntry}
use Rattle.report_past.specs.Told.{close_of}
use Rattle.report_past.specs.work.Reading.{IsReading, Stand}
use Rattle.request_book.specs.Book.{BookView, IsApplied, next_position}
use Rattle.request_book.specs.notices.Notices.{entry_notices}
use Rattle.request_book.specs.register.Step.{step}
use Rattle.request_book.specs.values.Command.{IsNoClose}
use Rattle.request_book.specs.declared.values.journal.Entry.{Entry}
use Rattle.request_book.specs.values.Batch.{Batch}
use Rattle.request_book.specs.declared.notices.notice.Notice.{Notice}
use Rattle.request_book.specs.declared.values.command.Command.{Command}
use Rattle.request_book.specs.declared.values.command.Command.TheVariants.{Close}
use Rattle.request_book.specs.declared.values.outcome.Outcome.{Outcome}
use Rattle.request_book.specs.declared.values.reply.Reply.{Reply}
use Rattle.request_book.specs.declared.values.reply.Reply.TheVariants.{Closed}
use Rattle.request_book.specs.declared.values.vehicle.Vehicle.{Vehicle}
use Rattle.rider_limits.specs.declared.settings.Settings.{Settings}
use Rattle.road_network.specs.Roads.{Roads}

-- the line is that of a row that may come, and the book took its command
pub record TakesRow (old new : BookView) (was now : Option Batch) (line : List ℕ) : Type 0 where
  pub lane : ℕ
  pub command : Command
  pub reply : Reply
  pub sealed : Option Batch
  pub within : lane < 16
  pub stands : MayStand lane command
  pub free : lane ≡ 0 → was ≡ None
  pub applied : IsApplied old lane command reply new
  pub sealed_is : sealed ≡ snapshot_before old.wait old.state command
  pub now_is : now ≡ last_sealed was sealed
  pub line_is : line ≡ entry_line (next_position old.first old.entries) (record { lane = lane; command = command; reply = reply })
  pub only : (position : ℕ) (e : Entry) → IsEntry position e → IsNoClose e.command → line ≡ entry_line position e → (e.lane ≡ lane) × (e.command ≡ command)

-- the line is that of this entry, a row's that may come next
pub record IsNextRow (book : BookView) (open_batch : Option Batch) (line : List ℕ) (e : Entry) : Type 0 where
  pub told : IsEntry (next_position book.first book.entries) e
  pub stands : MayStand e.lane e.command
  pub within : e.lane < 16
  pub free : e.lane ≡ 0 → open_batch ≡ None
  pub reply : e.reply ≡ (step book.nodes book.wait book.state e.command).1
  pub line_is : line ≡ entry_line (next_position book.first book.entries) e

-- a book with its journal given up
abbrev pub fresh : BookView → BookView
fresh b = record { nodes = b.nodes; wait = b.wait; first = next_position b.first b.entries; base = b.state; entries = []; state = b.state; spare = 0 }

-- a close was entered, and the book gave its journal up
pub record EntersClose (old new : BookView) (batch : ℕ) (outcome : Outcome) (told : List Notice) : Type 0 where
  pub reply : Reply
  pub closed : BookView
  pub applied : IsApplied old 0 (Close batch outcome) reply closed
  pub fresh_is : new ≡ fresh closed
  pub told_is : told ≡ entry_notices old.state (Close batch outcome) Closed

-- the block of this batch comes first, with an outcome that is good where it is judged; no other good outcome's block does
pub record TellsBlock (settings : Settings) (roads : Roads) (judged : Bool) (batch : Batch) (text : List ℕ) (outcome : Outcome) (rest : List ℕ) : Type 0 where
  pub block : text ≡ lines_text (block_lines true batch.number outcome) ++ rest
  pub good : judged ≡ true → IsGoodOutcome settings roads batch outcome
  pub only : (other : Outcome) (behind : List ℕ) → BeginsWithGood settings roads batch text other behind → (other ≡ outcome) × (behind ≡ rest)

-- the text begins with no block of a good outcome of this batch
abbrev pub HasNoBlock : Settings → Roads → Batch → List ℕ → Type 0
HasNoBlock settings roads batch text = (outcome : Outcome) (rest : List ℕ) → BeginsWithGood settings roads batch text outcome rest → ⊥

-- the line isn't that of the close of this batch, whatever its outcome
abbrev pub IsNoClosing : BookView → Batch → List ℕ → Type 0
IsNoClosing book batch line = (outcome : Outcome) → line ≡ entry_line (next_position book.first book.entries) (close_of batch outcome) → ⊥

-- the line is that of the open batch's close, behind it stands its block, and the book took the close
pub record TakesClose (settings : Settings) (roads : Roads) (judged : Bool) (old new : BookView) (batch : Batch) (line after rest : List ℕ)
    (told : List Notice) : Type 0 where
  pub outcome : Outcome
  pub tells : TellsBlock settings roads judged batch after outcome rest
  pub line_is : line ≡ entry_line (next_position old.first old.entries) (close_of batch outcome)
  pub enters : EntersClose old new batch.number outcome told

-- of the whole lines all was read but this rest, and here the reading stands
pub record Reached (settings : Settings) (roads : Roads) (vehicles : List Vehicle) (judged : Bool) (whole : List ℕ) (s : Stand) (rest : List ℕ) : Type 0 where
  pub read : List ℕ
  pub parts : whole ≡ read ++ rest
  pub reading : IsReading settings roads vehicles judged read s
