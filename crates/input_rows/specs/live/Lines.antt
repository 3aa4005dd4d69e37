-- The lines of a text.
use Rattle.std.specs.Prelude.{◌≡◌, ℕ, ◌-◌, ◌==◌, ◌||◌, Bool, true, false, List, [], ◌∷◌, Option, None, Some, map, take, drop, ⊤}
use Rattle.std.specs.Io.KnownBytes.{prepend_known}
use Rattle.std.specs.List.{slice_split}

-- the byte ends a line: a line feed or a carriage return
abbrev pub ends_line : ℕ → Bool
ends_line byte = byte == 10 || byte == 13

-- a line, or of one of more than 65,536 bytes the first 65,537
abbrev pub front_of : List ℕ → List ℕ
front_of line = take 65537 line

-- the lines of a text, without their ends
abbrev pub lines_in : List ℕ → List (List ℕ)
lines_in text = map front_of (slice_split ends_line text)

-- of a text, where it is told, the first line is taken, with its end or as the last
abbrev pub TakesLine : Bool → Option (List ℕ) → Option (List ℕ) → List ℕ → Type 0
TakesLine ended None new line = ⊤
TakesLine ended (Some text) None line = ⊥
TakesLine true (Some text) (Some rest) line = lines_in text ≡ line ∷ lines_in rest
TakesLine false (Some text) (Some rest) line = (lines_in text ≡ line ∷ []) × (rest ≡ [])

-- the bytes to come, where they are told: those at hand, and then those of the source
abbrev pub bytes_to_come : Option (List ℕ) → List ℕ → ℕ → ℕ → Option (List ℕ)
bytes_to_come left buffer at filled = prepend_known (take (filled - at) (drop at buffer)) left

-- what a stream of lines shows: the bytes to come, where they are told, and how many reads of its source have failed
pub record Streamed : Type 0 where
  pub to_come : Option (List ℕ)
  pub faults : ℕ
