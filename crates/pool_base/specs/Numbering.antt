-- Names that have numbers.
use Rattle.std.specs.Prelude.{ℕ, List, [], ◌∷◌, ◌++◌, ◌==◌, if◌then◌else◌}
use Rattle.std.specs.List.{list_any}

-- names by their numbers, and how many more are sure to need no memory
pub record NumberingView : Type 0 where
  pub names : List ℕ
  pub spare : ℕ

-- the names, and one more where it is new
abbrev pub with_name : List ℕ → ℕ → List ℕ
with_name names name = if list_any (λ other. name == other) names then names else names ++ name ∷ []
