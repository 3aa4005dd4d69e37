-- The lines of a block, by how they are read.
use Rattle.std.specs.Prelude.{ℕ, Bool, List, codes, if◌then◌else◌, ◌++◌, Option, None, Some, MatchOption, ◌≡◌, ◌<◌, ◌^◌, ◌≢◌, true}
use Rattle.dispatch_report.specs.Words.{numbered, spaced}
use Rattle.dispatch_report.specs.Fits.{IsId}
use Rattle.std.specs.List.{flat_map, All}
use Rattle.dispatch_report.specs.Block.{stop_text, block_line_text}
use Rattle.request_book.specs.declared.values.outcome.PlannedStop.{PlannedStop}
use Rattle.report_audit.specs.lines.BlockLine.{FitsStop, IsBlockLine}
use Rattle.dispatch_report.specs.declared.block_line.BlockLine.{BlockLine}
use Rattle.dispatch_report.specs.declared.block_line.BlockLine.TheVariants.{Late, Alone, Shared, TripRow, Trip, Move, Branch, Leaf}
use Rattle.report_audit.specs.lines.Order.{may_follow_at}

-- the beginning of a stop: what happens, and to whom
abbrev pub visit_text : Bool × ℕ → List ℕ
visit_text visit = numbered (if visit.0 then codes " pick:" else codes " drop:") visit.1

abbrev pub IsVisit : Bool × ℕ → Type 0
IsVisit visit = IsId visit.1

-- a late vehicle's order, or none and no delay
abbrev pub order_text : ℕ × Option (List PlannedStop) → List ℕ
order_text order = elim order.1 [ None ↦ codes " none" | Some stops ↦ spaced order.0 ++ flat_map stop_text stops ]

abbrev pub IsOrder : ℕ × Option (List PlannedStop) → Type 0
IsOrder order = MatchOption order.1 (order.0 ≡ 0) (λ stops. (order.0 < 2 ^ 64) × All FitsStop stops)

-- no line of a block that may follow one of this place is this line
abbrev pub CannotFollow : ℕ → List ℕ → Type 0
CannotFollow place line = (x : BlockLine) → IsBlockLine x → may_follow_at place x ≡ true → line ≢ block_line_text x

-- a line of more numbers than one, or of riders, stops or multipliers
abbrev pub IsLongLine : BlockLine → Type 0
IsLongLine (Late late) = IsBlockLine (Late late)
IsLongLine (Alone pair) = IsBlockLine (Alone pair)
IsLongLine (Shared pair) = IsBlockLine (Shared pair)
IsLongLine (TripRow row) = IsBlockLine (TripRow row)
IsLongLine (Trip trip) = IsBlockLine (Trip trip)
IsLongLine (Move m) = IsBlockLine (Move m)
IsLongLine (Branch branch) = IsBlockLine (Branch branch)
IsLongLine (Leaf multipliers) = IsBlockLine (Leaf multipliers)
IsLongLine _ = ⊥

-- any other line
abbrev pub IsPlainLine : BlockLine → Type 0
IsPlainLine line = IsBlockLine line × (IsLongLine line → ⊥)
