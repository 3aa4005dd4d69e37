use Rattle.std.specs.Prelude.{ℕ, ◌<◌, List, length, take, Option}
use Rattle.std.specs.Io.KnownBytes.{Appends}

-- the bytes written so far, where they are told, grow by a part of these bytes, from their front and not the whole
abbrev pub AppendsPart : Option (List ℕ) → Option (List ℕ) → List ℕ → Type 0
AppendsPart old new bytes = (count : ℕ) × (count < length bytes) × Appends old new (take count bytes)

-- what a sink in memory shows: the bytes written, how many a call takes at most, the numbers of the
-- calls that fail, how many calls there were, and how many failed
pub record Outlet : Type 0 where
  pub written : List ℕ
  pub most : ℕ
  pub fail : List ℕ
  pub calls : ℕ
  pub faults : ℕ
