use Rattle.std.specs.Prelude.{◌≡◌, ℕ, List, length, Option}
use Rattle.std.specs.Io.KnownBytes.{Consumes}

-- the bytes still to come, where they are told, begin with some `count` bytes and lose them
abbrev pub Loses : Option (List ℕ) → Option (List ℕ) → ℕ → Type 0
Loses old new count = (gone : List ℕ) × Consumes old new gone × (length gone ≡ count)

-- what a source in memory shows: the bytes still to come, how many are gone, how many a call gives
-- at most, the numbers of the calls that fail, how many calls there were, and how many failed
pub record Supply : Type 0 where
  pub left : List ℕ
  pub taken : ℕ
  pub most : ℕ
  pub fail : List ℕ
  pub calls : ℕ
  pub faults : ℕ

-- what a source in memory that never fails shows: the bytes still to come, and how many are gone
pub record Unread : Type 0 where
  pub left : List ℕ
  pub taken : ℕ
