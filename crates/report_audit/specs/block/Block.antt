use Rattle.std.specs.Prelude.{◌≡◌, ℕ, true, List, ◌++◌, map}
use Rattle.request_book.specs.values.Batch.{Batch}
use Rattle.dispatch_engine.specs.outcome.Outcome.{IsGoodOutcome}
use Rattle.dispatch_report.specs.Block.{block_lines}
use Rattle.dispatch_report.specs.Lines.{lines_text}
use Rattle.report_audit.specs.points.Verdict.{Meets, IsVerdictOf}
use Rattle.dispatch_engine.specs.declared.outcome.point.Point.{Point}
use Rattle.report_audit.specs.declared.points.verdict.Verdict.TheVariants.{Fails}
use Rattle.report_audit.specs.lines.BlockLines.{IsBlock, BlockFails}
use Rattle.report_audit.specs.declared.lines.block_lines.BlockFault.TheVariants as fault
use Rattle.dispatch_report.specs.declared.block_line.BlockLine.{BlockLine}
use Rattle.request_book.specs.declared.values.outcome.Outcome.{Outcome}
use Rattle.rider_limits.specs.declared.settings.Settings.{Settings}
use Rattle.road_network.specs.Roads.{Roads}
use Rattle.report_audit.specs.block.Fits.{FitsTypes}
use Rattle.report_audit.specs.block.Judged.{judged_outcome, CanBeTold}
use Rattle.report_audit.specs.block.BlockLists.{BlockLists, told_by}
use Rattle.report_audit.specs.declared.block.refusal.BlockRefusal.{BlockRefusal}
use Rattle.report_audit.specs.declared.block.refusal.BlockRefusal.TheVariants.{OutOfMemory, Cut, Form, Wrong}

-- Texts that begin with the block of a batch.

-- the text begins with the block of a good outcome of this batch
pub record BeginsWithGood (settings : Settings) (roads : Roads) (batch : Batch) (text : List ℕ) (outcome : Outcome) (rest : List ℕ) : Type 0 where
  pub whole : text ≡ lines_text (block_lines true batch.number outcome) ++ rest
  pub fits : FitsTypes batch.number outcome
  pub good : IsGoodOutcome settings roads batch outcome

-- the number that is told is the batch's, the point holds of the outcome as which the lines are judged, and it can be told
abbrev pub MeetsAs : Settings → Roads → Batch → BlockLists → Point → Type 0
MeetsAs settings roads batch told q = (told.batch ≡ batch.number) × Meets settings roads batch (judged_outcome (map (λ v. v.id) batch.vehicles) told) q × CanBeTold q told

-- the text begins with a block, and this point is the first that fails of what its lines tell
pub record BeginsWithWrong (settings : Settings) (roads : Roads) (batch : Batch) (text : List ℕ) (point : Point) : Type 0 where
  pub lines : List BlockLine
  pub rest : List ℕ
  pub block : IsBlock text lines rest
  pub fails : IsVerdictOf (MeetsAs settings roads batch (told_by lines)) (Fails point)

-- why a text begins with no block of a good outcome
abbrev pub Refuses : Settings → Roads → Batch → List ℕ → BlockRefusal → Type 0
Refuses settings roads batch text OutOfMemory = Unit {0}
Refuses settings roads batch text (Cut n) = BlockFails text (fault.Cut n)
Refuses settings roads batch text (Form n) = BlockFails text (fault.Form n)
Refuses settings roads batch text (Wrong point) = BeginsWithWrong settings roads batch text point
