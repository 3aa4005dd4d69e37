-- Which outcomes a block can tell.
use Rattle.std.specs.Prelude.{ℕ, ◌≤◌, length, IfSome, true}
use Rattle.std.specs.List.{All}
use Rattle.report_audit.specs.lines.BlockLine.{IsBlockLine}
use Rattle.dispatch_report.specs.Block.{lines_of}
use Rattle.request_book.specs.declared.values.outcome.Answer.{Answer}
use Rattle.request_book.specs.declared.values.outcome.Answer.TheVariants.{Overflow, Planned as Plan}
use Rattle.request_book.specs.declared.values.outcome.Outcome.{Outcome}

-- no late vehicle and no chosen trip has more stops than there can be
abbrev pub HasFewStops : Answer → Type 0
HasFewStops Overflow = Unit {0}
HasFewStops (Plan plan) =
    All (λ late. IfSome late.stops (λ stops. length stops.items ≤ 10)) plan.late × All (λ trip. length trip.stops.items ≤ 22) plan.chosen

-- each number of the outcome's lines is within its type, and each list of stops
pub record FitsTypes (batch : ℕ) (outcome : Outcome) : Type 0 where
  pub lines : All IsBlockLine (lines_of true batch outcome)
  pub stops : HasFewStops outcome.answer
