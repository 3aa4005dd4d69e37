-- Nodes that are numbered keep their indexes.
use Rattle.std.proofs.Common.{rules, ◌≡◌, ℕ, ◌<◌, ◌==◌, true, false, Bool, List, [], ◌∷◌, ◌++◌, length, map, refl, ap, ◌∙◌, arith, length-append, All}
use Rattle.road_network.proofs.Common.{
  false≢true,
  nat_tests,
  All-head,
  All-tail,
  list_any,
  position_or_len,
  Arc,
  index_in,
  arc_in,
  number_at,
  with_row,
  with_name,
}

pub any_found : {A : Type 0} (p : A → Bool) (xs : List A) → list_any p xs ≡ true → position_or_len p xs < length xs
any_found p [] e = absurd (false≢true e)
any_found p (x ∷ xs) e = grind (arith, any_found p xs)

none_found : {A : Type 0} (p : A → Bool) (xs : List A) → list_any p xs ≡ false → position_or_len p xs ≡ length xs
none_found p [] e = refl
none_found p (x ∷ xs) e = grind (arith, none_found p xs)

position-append : {A : Type 0} (p : A → Bool) (xs ys : List A) → position_or_len p xs < length xs → position_or_len p (xs ++ ys) ≡ position_or_len p xs
position-append p [] ys found = absurd (omega (arith, found))
position-append p (x ∷ xs) ys found = grind (arith, position-append p xs ys)

-- a node is among those that are numbered
abbrev pub IsNumbered : List ℕ → ℕ → Type 0
IsNumbered nodes name = index_in nodes name < length nodes

last_found : (nodes : List ℕ) (name : ℕ) → list_any (λ node. name == node) nodes ≡ false → index_in (nodes ++ name ∷ []) name ≡ length nodes
last_found [] name none = grind (arith, nat_tests)
last_found (n ∷ nodes) name none = grind (arith, nat_tests, last_found nodes name)

-- a name that is added is numbered, by the index that it had or gets
pub with_name-numbers : (nodes : List ℕ) (name : ℕ) → (index_in (with_name nodes name) name ≡ index_in nodes name) × IsNumbered (with_name nodes name) name
with_name-numbers nodes name = search (rules, last_found, none_found, any_found, length-append)

-- and every other name keeps its index
pub with_name-keeps : (nodes : List ℕ) (name other : ℕ) → IsNumbered nodes other → (index_in (with_name nodes name) other ≡ index_in nodes other) × IsNumbered
    (with_name nodes name) other
with_name-keeps nodes name other numbered = search (rules, position-append, length-append)

-- both nodes of a row are numbered
abbrev pub IsRowNumbered : List ℕ → List (List ℕ) → Type 0
IsRowNumbered nodes fields = IsNumbered nodes (number_at fields 0) × IsNumbered nodes (number_at fields 1)

-- the nodes of a row are numbered after it, with these indexes
pub with_row-numbers : (nodes : List ℕ) (fields : List (List ℕ)) → IsRowNumbered (with_row nodes fields) fields
    × (index_in (with_row nodes fields) (number_at fields 0) ≡ index_in (with_name nodes (number_at fields 0)) (number_at fields 0))
with_row-numbers nodes fields = search (rules, with_name-numbers, with_name-keeps)

with_row-keeps : (nodes : List ℕ) (fields : List (List ℕ)) (other : ℕ) → IsNumbered nodes other →
    (index_in (with_row nodes fields) other ≡ index_in nodes other) × IsNumbered (with_row nodes fields) other
with_row-keeps nodes fields other numbered = search (rules, with_name-keeps)

pub All-numbered : (nodes : List ℕ) (fields : List (List ℕ)) (rows : List (List (List ℕ))) → All (IsRowNumbered nodes) rows →
    All (IsRowNumbered (with_row nodes fields)) rows
All-numbered nodes fields rows all = λ k d below. ((with_row-keeps nodes fields _ (all k d below).0).1, (with_row-keeps nodes fields _ (all k d below).1).1)

-- the arcs of the rows before keep their indexes
pub map-arc_in : (nodes : List ℕ) (fields : List (List ℕ)) (rows : List (List (List ℕ))) → All (IsRowNumbered nodes) rows →
    map (arc_in (with_row nodes fields)) rows ≡ map (arc_in nodes) rows
map-arc_in nodes fields [] all = refl
map-arc_in nodes fields (row ∷ rows) all =
    let here = All-head (IsRowNumbered nodes) row rows all in
    let from = (with_row-keeps nodes fields (number_at row 0) here.0).0 in
    let to = (with_row-keeps nodes fields (number_at row 1) here.1).0 in
    let arc : arc_in (with_row nodes fields) row ≡ arc_in nodes row = rw (from, to) refl in
    ap (λ (a : Arc). a ∷ map (arc_in (with_row nodes fields)) rows) arc ∙ ap (λ (arcs : List Arc). arc_in nodes row ∷ arcs)
    (map-arc_in nodes fields rows (All-tail (IsRowNumbered nodes) row rows all))
