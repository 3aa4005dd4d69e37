-- How far a text was walked through.
use Rattle.std.specs.Prelude.{◌≡◌, ℕ, Bool, true, false, ◌&&◌, List, [], ◌∷◌, ◌++◌, length}
use Rattle.std.specs.List.{All}
use Rattle.dispatch_report.specs.Lines.{lines_text}
use Rattle.report_audit.specs.lines.Cut.{is_one_line}
use Rattle.report_past.specs.Whole.{after_line, after_lines}

-- behind each of these lines a block is open
unfoldable pub are_inside : Bool → List (List ℕ) → Bool
are_inside inside [] = true
are_inside inside (line ∷ lines) = after_line inside line && are_inside (after_line inside line) lines

-- these lines were walked through: some that are whole, and others behind each of which a block is open
pub record Walked (text rest : List ℕ) (inside : Bool) (kept : ℕ) : Type 0 where
  pub whole : List (List ℕ)
  pub others : List (List ℕ)
  pub ones : All (λ line. is_one_line line ≡ true) whole
  pub other_ones : All (λ line. is_one_line line ≡ true) others
  pub printed : text ≡ lines_text whole ++ (lines_text others ++ rest)
  pub closed : after_lines false whole ≡ false
  pub kept_is : kept ≡ length (lines_text whole)
  pub inside_is : inside ≡ after_lines false others
  pub still : are_inside false others ≡ true
