-- Texts of lines.
use Rattle.std.specs.Prelude.{ℕ, List, [], ◌∷◌, ◌++◌}
use Rattle.std.specs.List.{flat_map}

-- the bytes of lines: each ends with a line feed
unfoldable pub lines_text : List (List ℕ) → List ℕ
lines_text lines = flat_map (λ line. line ++ 10 ∷ []) lines
