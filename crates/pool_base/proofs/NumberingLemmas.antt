-- Names that get the next number.
use Rattle.std.proofs.Common.{rules, ◌≡◌, ℕ, eqb, List, [], ◌∷◌, Some, position, refl, arith}
use Rattle.std.proofs.lemmas.Bool.Decides.{nat_tests}
use Rattle.std.specs.List.{list_any, position_or_len}
use Rattle.std.specs.Map.{keys_of}
use Rattle.std.specs.Prelude.{is_some}
use Rattle.indexmap.specs.IndexMap.{insert_entry}
use Rattle.pool_base.specs.Numbering.{with_name}

-- a name has a number where it is one of the names
pub found : (name : ℕ) (names : List ℕ) → is_some (position (eqb name) names) ≡ list_any (eqb name) names
found name [] = refl
found name (x ∷ xs) = search (rules, found name xs)

-- the names behind a map's `insert`
pub keys-insert : {X : Type 0} (name : ℕ) (v : X) (es : List (ℕ × X)) → keys_of (insert_entry eqb es name v) ≡ with_name (keys_of es) name
keys-insert name v [] = refl
keys-insert name v (e ∷ es) = grind (arith, nat_tests, keys-insert name v es)

-- the number of the name that was given
pub position-with_name : (name : ℕ) (names : List ℕ) → position (eqb name) (with_name names name) ≡ Some (position_or_len (eqb name) names)
position-with_name name [] = grind (arith, nat_tests)
position-with_name name (x ∷ xs) = grind (arith, nat_tests, position-with_name name xs)
