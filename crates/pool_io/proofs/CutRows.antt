-- A flat list of fields, cut into rows.
use Rattle.std.proofs.Common.{
  rules,
  ◌≡◌,
  ℕ,
  zero,
  suc,
  ◌+◌,
  ◌*◌,
  ◌<◌,
  ◌==◌,
  not,
  List,
  [],
  ◌∷◌,
  ◌++◌,
  Some,
  None,
  length,
  get_or,
  drop,
  refl,
  sym,
  ap,
  ◌∙◌,
  arith,
  true,
  Bool,
  inl,
  inr,
  length-drop,
  length-take,
}
use Rattle.pool_io.proofs.Common.{take-append-le, drop-append-le, nil_from_length, cases_Bool, none-some, position_from, cut_rows}
use Rattle.std.proofs.lemmas.List.{take_all, get_or-take, get_or-drop}

pub length-cut_rows : (count columns : ℕ) (fields : List (List ℕ)) → length (cut_rows count columns fields) ≡ count
length-cut_rows zero columns fields = refl
length-cut_rows (suc count) columns fields = ap suc (length-cut_rows count columns (drop columns fields))

-- one more record's fields at the end are one more row
pub cut_rows-append : (count columns : ℕ) (fields row : List (List ℕ)) → length fields ≡ count * columns → length row ≡ columns
    → cut_rows (suc count) columns (fields ++ row) ≡ cut_rows count columns fields ++ row ∷ []
cut_rows-append zero columns fields row flat even = search (rules, nil_from_length, take_all)
cut_rows-append (suc count) columns fields row flat even = search (rules, length-drop, take-append-le, drop-append-le, (cut_rows-append count columns))

-- a field of a row stands in the flat list
pub cut_rows-field : (count columns : ℕ) (fields : List (List ℕ)) (row column : ℕ) → row < count → column < columns
    → get_or (get_or (cut_rows count columns fields) row []) column [] ≡ get_or fields (row * columns + column) []
cut_rows-field zero columns fields row column below within = absurd (omega (arith, below))
cut_rows-field (suc count) columns fields zero column below within = search (rules, get_or-take)
cut_rows-field (suc count) columns fields (suc row) column below within = search (rules, get_or-drop, (cut_rows-field count columns))

-- no row has another number of fields
pub position_from-cut_rows : (count columns : ℕ) (fields : List (List ℕ)) (start : ℕ) → length fields ≡ count * columns
    → position_from (λ (row : List (List ℕ)). not (length row == columns)) start (cut_rows count columns fields) ≡ None
position_from-cut_rows zero columns fields start flat = refl
position_from-cut_rows (suc count) columns fields start flat = search (rules, length-drop, length-take, (position_from-cut_rows count columns))

-- the first that passes stands after those that don't
pub position_from-first : {A : Type 0} (test : A → Bool) (start : ℕ) (front : List A) (x : A) (more : List A)
    → position_from test start front ≡ None → test x ≡ true → position_from test start (front ++ x ∷ more) ≡ Some (start + length front)
position_from-first test start [] x more none here = rw here (ap Some (omega arith))
position_from-first test start (y ∷ front) x more none here =
    elim (cases_Bool (test y)) [
      | inl passes ↦ absurd (none-some start (sym (rw passes at none)))
      | inr fails ↦ rw fails (position_from-first test (start + 1) front x more (rw fails at none) here ∙ ap Some (omega arith))
    ]
