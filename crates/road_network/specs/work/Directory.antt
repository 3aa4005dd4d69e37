use Rattle.std.specs.Prelude.{◌≡◌, ℕ, List, nat_eq, position}
use Rattle.std.specs.List.{IsDistinct}
use Rattle.std.specs.HashMap.{HashMap, get}

-- a table finds the number of each name
abbrev pub FindsEach : {S : Type 0} → List ℕ → HashMap ℕ ℕ S → Type 0
FindsEach names numbers = (name : ℕ) → get nat_eq numbers name ≡ position (nat_eq name) names

-- the same of different names
pub record IsDirectory {S : Type 0} (names : List ℕ) (numbers : HashMap ℕ ℕ S) : Type 0 where
  pub each : FindsEach names numbers
  pub distinct : IsDistinct nat_eq names
