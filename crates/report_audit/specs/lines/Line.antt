-- The first line of a text.
use Rattle.std.specs.Prelude.{◌≡◌, ℕ, true, List, ◌∷◌, ◌++◌}
use Rattle.report_audit.specs.lines.Cut.{is_one_line}

-- the text begins with this line and its line feed, and this follows
pub record IsFirstLine (text line rest : List ℕ) : Type 0 where
  pub whole : text ≡ line ++ 10 ∷ rest
  pub one : is_one_line line ≡ true
