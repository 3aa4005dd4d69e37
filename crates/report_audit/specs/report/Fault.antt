-- What each fault of a report means.
use Rattle.std.specs.Prelude.{◌≡◌, ◌≢◌, ℕ, ◌+◌, ◌-◌, ◌^◌, ◌==◌, min, true, List, [], ◌++◌, length, count_by, Some}
use Rattle.request_book.specs.values.Batch.{Batch}
use Rattle.request_book.specs.declared.values.vehicle.Vehicle.{Vehicle}
use Rattle.report_audit.specs.block.Block.{Refuses}
use Rattle.report_audit.specs.declared.block.refusal.BlockRefusal.{BlockRefusal}
use Rattle.report_audit.specs.declared.block.refusal.BlockRefusal.TheVariants as block
use Rattle.dispatch_report.specs.Entry.{entry_line}
use Rattle.report_audit.specs.lines.HeadFault.{HeadFails}
use Rattle.report_audit.specs.lines.Line.{IsFirstLine}
use Rattle.report_audit.specs.lines.Settings.{AreSettingsOf}
use Rattle.report_audit.specs.declared.lines.head_fault.HeadFault.{HeadFault}
use Rattle.report_audit.specs.declared.lines.head_fault.HeadFault.TheVariants as head
use Rattle.report_audit.specs.lines.Cut.{is_one_line}
use Rattle.request_book.specs.declared.values.journal.Entry.{Entry}
use Rattle.request_book.specs.declared.values.journal.Journal.{Journal}
use Rattle.request_book.specs.declared.values.reply.Reply.TheVariants.{Closed}
use Rattle.rider_limits.specs.declared.settings.Settings.{Settings}
use Rattle.road_network.specs.Roads.{Roads}
use Rattle.input_rows.specs.script.Round.{NumberedLanes}
use Rattle.report_audit.specs.report.Place.{Extent, MayFollow, IsInForm, IsRightUpTo, MayComeNext, position_behind, state_behind}
use Rattle.report_audit.specs.declared.report.fault.AuditFault.{AuditFault}
use Rattle.report_audit.specs.declared.report.fault.AuditFault.TheVariants.{Cut, Form, Head, Entry as WrongEntry, Batch as WrongBatch, OutOfMemory}

-- no whole line follows where one must; behind the last line nothing must
abbrev pub IsCut : Extent → List ℕ → Type 0
IsCut Extent.finished text = (is_one_line text ≡ true) × (text ≢ [])
IsCut _ text = is_one_line text ≡ true

-- the next line has the form of none that may stand there
abbrev pub IsOutOfForm : Extent → List ℕ → Type 0
IsOutOfForm place text = (line after : List ℕ) × IsFirstLine text line after × (IsInForm place line → ⊥)

-- the next line is in form, and isn't one with which a run goes on
abbrev pub IsWrongLine : Settings → Roads → Extent → List ℕ → Type 0
IsWrongLine settings roads place text = (line after : List ℕ) × IsFirstLine text line after × IsInForm place line × (MayFollow settings roads place line → ⊥)

-- the next line is a close that may come and was answered `closed`, and behind it stands no block of a good outcome
pub record IsWrongBlock (settings : Settings) (roads : Roads) (round : NumberedLanes) (j : Journal) (text : List ℕ) (refusal : BlockRefusal) : Type 0 where
  pub line : List ℕ
  pub after : List ℕ
  pub closing : Entry
  pub batch : Batch
  pub has : IsFirstLine text line after
  pub comes : MayComeNext settings roads round j closing
  pub line_is : line ≡ entry_line (position_behind j) closing
  pub closed : closing.reply ≡ Closed
  pub sealed : (state_behind settings roads j).sealed ≡ Some batch
  pub refused : Refuses settings roads batch after refusal

-- a report that is right up to a place within a round fails there in a batch's block
abbrev pub IsWrongBatch : BlockRefusal → Settings → Roads → Extent → List ℕ → Type 0
IsWrongBatch refusal settings roads (Extent.within round j) text = IsWrongBlock settings roads round j text refusal
IsWrongBatch refusal settings roads _ text = ⊥

-- behind its head a report is right up to this line, and there it fails
pub record FailsAt (roads : Roads) (vehicles : List Vehicle) (rounds : List NumberedLanes) (workers : ℕ) (text : List ℕ) (Fails : Settings → Roads → Extent → List ℕ → Type 0) (line : ℕ) : Type 0 where
  pub settings : Settings
  pub audited : AreSettingsOf workers settings
  pub place : Extent
  pub read : List ℕ
  pub rest : List ℕ
  pub whole : text ≡ read ++ rest
  pub right : IsRightUpTo settings roads vehicles rounds place read
  -- lines end with a line feed, and count from 1
  pub line_is : line ≡ count_by (λ c. c == 10) read + 1
  pub fails : Fails settings roads place rest

-- the block behind a close fails in this way, so many lines behind its first in this line; lines are counted up to the greatest
-- number of 64 bits
pub record FailsInBlock (roads : Roads) (vehicles : List Vehicle) (rounds : List NumberedLanes) (workers : ℕ) (text : List ℕ) (refusal : BlockRefusal) (lines line : ℕ) : Type 0 where
  pub closing : ℕ
  pub line_is : line ≡ min (closing + 1 + lines) (2 ^ 64 - 1)
  pub fails : FailsAt roads vehicles rounds workers text (IsWrongBatch refusal) closing

-- this line fails in one way: as a line of the head, as one behind it, or as one of a block
pub data FailsAsLine (roads : Roads) (vehicles : List Vehicle) (rounds : List NumberedLanes) (workers : ℕ) (text : List ℕ) (of_head : ℕ → HeadFault) (Fails : Extent → List ℕ → Type 0) (of_block : ℕ → BlockRefusal) (line : ℕ) : Type 0 where
  in_head : HeadFails roads (length vehicles) text (of_head line) → FailsAsLine roads vehicles rounds workers text of_head Fails of_block line
  behind : FailsAt roads vehicles rounds workers text (λ settings roads place rest. Fails place rest) line → FailsAsLine roads vehicles rounds workers text of_head Fails of_block line
  in_block : (lines : ℕ) → FailsInBlock roads vehicles rounds workers text (of_block lines) lines line → FailsAsLine roads vehicles rounds workers text of_head Fails of_block line

-- what a fault says of a text
abbrev pub HasFault : Roads → List Vehicle → List NumberedLanes → ℕ → List ℕ → AuditFault → Type 0
HasFault roads vehicles rounds workers text (Cut line) = FailsAsLine roads vehicles rounds workers text head.Cut IsCut block.Cut line
HasFault roads vehicles rounds workers text (Form line) = FailsAsLine roads vehicles rounds workers text head.Form IsOutOfForm block.Form line
HasFault roads vehicles rounds workers text (Head line) = HeadFails roads (length vehicles) text (head.Head line)
HasFault roads vehicles rounds workers text (WrongEntry line) = FailsAt roads vehicles rounds workers text IsWrongLine line
HasFault roads vehicles rounds workers text (WrongBatch line point) = FailsInBlock roads vehicles rounds workers text (block.Wrong point) 0 line
HasFault roads vehicles rounds workers text OutOfMemory = Unit {0}
