-- A line that is read piece by piece.
use Rattle.std.specs.Prelude.{◌≡◌, ℕ, Bool, true, false, List, [], ◌∷◌, ◌++◌, Option}
use Rattle.std.specs.Io.KnownBytes.{Consumes}
use Rattle.std.specs.List.{All}
use Rattle.input_rows.specs.live.Lines.{ends_line, front_of}

-- no byte of it ends a line
abbrev pub EndsNoLine : List ℕ → Type 0
EndsNoLine piece = All (λ byte. ends_line byte ≡ false) piece

-- a piece of a line was taken, with the line's end or without, and added to what was read of it
pub data TakesPiece (old new : Option (List ℕ)) (before after : List ℕ) : Bool → Type 0 where
  ended : (piece : List ℕ) (end : ℕ) → EndsNoLine piece → ends_line end ≡ true → after ≡ front_of (before ++ piece) → Consumes old new (piece ++ end ∷ []) → TakesPiece old new before after true
  inner : (piece : List ℕ) → EndsNoLine piece → after ≡ front_of (before ++ piece) → Consumes old new piece → TakesPiece old new before after false

-- a line was read up to some byte
pub record HasTaken (old now : Option (List ℕ)) (line : List ℕ) : Type 0 where
  pub gone : List ℕ
  pub inside : EndsNoLine gone
  pub front : line ≡ front_of gone
  pub took : Consumes old now gone
