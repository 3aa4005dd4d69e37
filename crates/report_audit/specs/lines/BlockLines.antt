-- The lines of a block, read one behind the other.
use Rattle.std.specs.Prelude.{◌≡◌, ◌≢◌, ℕ, true, List, ◌∷◌, ◌++◌, length, map}
use Rattle.std.specs.List.{All}
use Rattle.dispatch_report.specs.Lines.{lines_text}
use Rattle.dispatch_report.specs.Block.{block_line_text}
use Rattle.report_audit.specs.lines.BlockLine.{IsBlockLine}
use Rattle.report_audit.specs.lines.Cut.{is_one_line}
use Rattle.report_audit.specs.lines.Order.{may_follow_at, follow_on, last_place}
use Rattle.report_audit.specs.declared.lines.block_lines.BlockFault.{BlockFault}
use Rattle.report_audit.specs.declared.lines.block_lines.BlockFault.TheVariants.{OutOfMemory, Cut, Form}
use Rattle.dispatch_report.specs.declared.block_line.BlockLine.{BlockLine}

-- a text begins with these lines of a block, which may follow one another
pub record BeginsBlock (text : List ℕ) (lines : List BlockLine) (rest : List ℕ) : Type 0 where
  pub whole : text ≡ lines_text (map block_line_text lines) ++ rest
  pub lawful : All IsBlockLine lines
  pub order : follow_on 0 lines ≡ true

-- a block from its first line to its last
pub record IsBlock (text : List ℕ) (lines : List BlockLine) (rest : List ℕ) : Type 0 where
  pub begins : BeginsBlock text lines rest
  pub ended : last_place 0 lines ≡ 16

-- so many lines stand, not yet the last, and the text ends before or within the next
pub record IsCutBlock (text : List ℕ) (lines : List BlockLine) (rest : List ℕ) : Type 0 where
  pub begins : BeginsBlock text lines rest
  pub going : last_place 0 lines ≢ 16
  pub cut : is_one_line rest ≡ true

-- so many lines stand, not yet the last, and the next can't follow
pub record IsBadBlock (text : List ℕ) (lines : List BlockLine) (rest : List ℕ) (line : List ℕ) (after : List ℕ) : Type 0 where
  pub begins : BeginsBlock text lines rest
  pub going : last_place 0 lines ≢ 16
  pub next : rest ≡ line ++ 10 ∷ after
  pub one : is_one_line line ≡ true
  pub bad : (x : BlockLine) → IsBlockLine x → may_follow_at (last_place 0 lines) x ≡ true → line ≢ block_line_text x

-- what is wrong with a text that begins with no block
abbrev pub BlockFails : List ℕ → BlockFault → Type 0
BlockFails text OutOfMemory = Unit {0}
BlockFails text (Cut n) = (lines : List BlockLine) × (rest : List ℕ) × (length lines ≡ n) × IsCutBlock text lines rest
BlockFails text (Form n) = (lines : List BlockLine) × (rest line after : List ℕ) × (length lines ≡ n) × IsBadBlock text lines rest line after
