-- Marks of riders, by which a dead end is seen.
use Rattle.std.specs.Prelude.{◌≡◌, ◌≢◌, ℕ, ◌<◌, Bool, true, false, IsTrue, List, length, slice_index_or}
use Rattle.plan_rules.specs.Graph.{Graph, has_rider}
use Rattle.plan_rules.specs.Multipliers.{Usable}
use Rattle.plan_rules.specs.Tree.{IsSoleRow}
use Rattle.plan_rules.specs.lemmas.DeadEnd.{StandsInSome}

-- each marked rider stands in a usable row
abbrev pub MarksSomeUsable : Graph → Usable → List Bool → Type 0
MarksSomeUsable g usable marks = (r : ℕ) → slice_index_or marks r false ≡ true → StandsInSome g usable (length g.rows) r

-- the marked riders are those of the sole rows of the first n vehicles, and no two of these rows share one
pub record MarksSole (g : Graph) (usable : Usable) (n : ℕ) (marks : List Bool) : Type 0 where
  pub from_sole : (r : ℕ) → slice_index_or marks r false ≡ true → (v : ℕ) × (k : ℕ) × (v < n) × IsSoleRow g usable v k × IsTrue (has_rider g k r)
  pub of_sole : (v k r : ℕ) → v < n → IsSoleRow g usable v k → IsTrue (has_rider g k r) → slice_index_or marks r false ≡ true
  pub apart : (v w j k r : ℕ) → v < n → w < n → v ≢ w → IsSoleRow g usable v j → IsSoleRow g usable w k → IsTrue (has_rider g j r) → IsTrue (has_rider g k r) → ⊥
