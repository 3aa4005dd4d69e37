-- Whole lines of a report, behind which no block is open.
use Rattle.std.specs.Prelude.{◌≡◌, ℕ, ◌==◌, Bool, true, false, not, ◌&&◌, List, [], ◌∷◌, codes, eqb, length, if◌then◌else◌}
use Rattle.std.specs.List.{All, ends_with}
use Rattle.dispatch_report.specs.Lines.{lines_text}
use Rattle.report_audit.specs.lines.Cut.{is_one_line}

-- a block follows the line: it is that of a close that was answered `closed`
abbrev pub opens : List ℕ → Bool
opens line = ends_with eqb line (codes " closed")

-- the line ends a block
abbrev pub is_end : List ℕ → Bool
is_end line = (length line == 3) && ends_with eqb line (codes "end")

-- whether a block is open behind a line, by whether one was open before it
abbrev pub after_line : Bool → List ℕ → Bool
after_line inside line = if inside then not (is_end line) else opens line

-- whether a block is open behind lines
unfoldable pub after_lines : Bool → List (List ℕ) → Bool
after_lines inside [] = inside
after_lines inside (line ∷ lines) = after_lines (after_line inside line) lines

-- the text is whole lines, behind which no block is open
pub record IsWholeText (text : List ℕ) : Type 0 where
  pub lines : List (List ℕ)
  pub ones : All (λ line. is_one_line line ≡ true) lines
  pub printed : text ≡ lines_text lines
  pub closed : after_lines false lines ≡ false
