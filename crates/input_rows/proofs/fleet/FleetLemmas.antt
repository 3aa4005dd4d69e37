-- A fleet, row by row.
use Rattle.std.proofs.Common.{
  ◌≡◌,
  ◌↔◌,
  ℕ,
  ◌+◌,
  ◌<◌,
  ◌≤◌,
  Bool,
  true,
  false,
  ◌||◌,
  cond,
  eqb,
  List,
  [],
  ◌∷◌,
  ◌++◌,
  length,
  get_or,
  take,
  Contains,
  Result,
  Ok,
  Err,
  sym,
  ap,
  subst,
  ◌∙◌,
  inl,
  inr,
  arith,
}
use Rattle.input_rows.proofs.Common.{
  list_any,
  take_more,
  Contains-append_left,
  Contains-append_right,
  Contains-append_cases,
  Contains-push,
  Contains-push_cases,
  list_any-append,
  ◌>>=◌,
  refused_where,
  all_or_first,
  number_at,
  all_or_first-err,
  Vehicle,
  TooManyVehicles,
  Duplicate,
  vehicle_in,
  vehicle_of_row,
  vehicles_of,
  has_vehicle,
}
use Rattle.std.specs.List.{insert}
use Rattle.std.proofs.lemmas.Bool.{le-ltb}
use Rattle.std.proofs.lemmas.List.Sorted.{IsPermutation-insert, IsPermutation-sym, Contains-permutation}
use Rattle.input_rows.specs.declared.fleet.fault.FleetFault.{FleetFault}
use Rattle.input_rows.proofs.fleet.FleetPlaceLemmas.{list_any-insert}
use Rattle.input_rows.proofs.fleet.FleetRowLemmas.{vehicle_in-last}

-- one more element, put in at any place of one list and at the end of another, has both lists the same elements still
pub same_members-insert : {X : Type 0} (xs ys : List X) (i : ℕ) (x : X) → ((v : X) → Contains ys v ↔ Contains xs v) → (v : X) →
    Contains (insert ys i x) v ↔ Contains (xs ++ x ∷ []) v
same_members-insert xs ys i x same v = (
  (λ has. elim (Contains-append_cases (x ∷ []) ys v (Contains-permutation (insert ys i x) (x ∷ ys) v
      (IsPermutation-sym (x ∷ ys) (insert ys i x) (IsPermutation-insert ys i x)) has)) [
        | inl one ↦ elim (Contains-push_cases [] x v one) [
          | inl none ↦ absurd (omega (arith, none.1))
          | inr new ↦ subst (λ y. Contains (xs ++ x ∷ []) y) new
              (Contains-push xs x)
        ]
        | inr there ↦ Contains-append_left xs (x ∷ []) v ((same v).0 there)
      ]),
  (λ has. Contains-permutation (x ∷ ys) (insert ys i x) v (IsPermutation-insert ys i x) (elim (Contains-push_cases xs x v has) [
    | inl there ↦ Contains-append_right (x ∷ []) ys v ((same v).1 there)
    | inr new ↦ subst (λ y. Contains (x ∷ ys) y) new (Contains-append_left (x ∷ []) ys x (Contains-push [] x))
  ])),
)

-- whether the first so many rows have a vehicle of an id
abbrev pub is_known : List (List (List ℕ)) → ℕ → ℕ → Bool
is_known records row id = list_any (λ fields. eqb (number_at fields 0) id) (take row records)

-- the ids with one more row
pub known_more : (records : List (List (List ℕ))) (row : ℕ) (sorted : List Vehicle) (place : ℕ) (vehicle : Vehicle) → row < length records →
    vehicle.id ≡ number_at (get_or records row []) 0 → ((id : ℕ) → has_vehicle sorted id ≡ is_known records row id) → (id : ℕ) →
    has_vehicle (insert sorted place vehicle) id ≡ is_known records (row + 1) id
known_more records row sorted place vehicle within named known id =
    let test : List (List ℕ) → Bool = λ fields. eqb (number_at fields 0) id in
    let here : Bool = eqb (number_at (get_or records row []) 0) id in
    list_any-insert (λ (v : Vehicle). eqb v.id id) sorted place vehicle
    ∙ ap (λ n. eqb n id || has_vehicle sorted id) named
    ∙ ap (λ b. here || b) (known id)
    ∙ turned here (is_known records row id)
    ∙ sym (ap (list_any test) (take_more records row [] within) ∙ list_any-append test (take row records) (get_or records row [] ∷ []))
  where
    turned : (a b : Bool) → (a || b) ≡ (b || (a || false))
    turned a b = grind arith

-- a row is refused as its fields are, and then where an earlier row has its vehicle
unless_known : List (List (List ℕ)) → ℕ → Vehicle → Result Vehicle FleetFault
unless_known records row vehicle = refused_where (is_known records row vehicle.id) (Duplicate (row + 1)) >>= λ _. Ok vehicle

vehicle_of_row-last : (nodes : List ℕ) (records : List (List (List ℕ))) (row : ℕ) → vehicle_of_row nodes records row ≡
    (vehicle_in nodes [] (row + 1) (get_or records row []) >>= unless_known records row)
unfolding unless_known
vehicle_of_row-last nodes records row = vehicle_in-last nodes (take row records) (row + 1) (get_or records row [])

-- a row of a new vehicle
pub vehicle_of_row-new : (nodes : List ℕ) (records : List (List (List ℕ))) (row : ℕ) (sorted : List Vehicle) (vehicle : Vehicle) →
    vehicle_in nodes [] (row + 1) (get_or records row []) ≡ Ok vehicle → ((id : ℕ) → has_vehicle sorted id ≡ is_known records row id) →
    has_vehicle sorted vehicle.id ≡ false → vehicle_of_row nodes records row ≡ Ok vehicle
unfolding unless_known
vehicle_of_row-new nodes records row sorted vehicle is known new =
    vehicle_of_row-last nodes records row ∙ ap (λ r. r >>= unless_known records row) is
    ∙ ap (λ t. refused_where t (Duplicate (row + 1)) >>= λ _. Ok vehicle) (sym (known vehicle.id) ∙ new)

-- a row of a vehicle that is there
pub vehicle_of_row-duplicate : (nodes : List ℕ) (records : List (List (List ℕ))) (row : ℕ) (sorted : List Vehicle) (vehicle : Vehicle) →
    vehicle_in nodes [] (row + 1) (get_or records row []) ≡ Ok vehicle → ((id : ℕ) → has_vehicle sorted id ≡ is_known records row id) →
    has_vehicle sorted vehicle.id ≡ true → vehicle_of_row nodes records row ≡ Err (Duplicate (row + 1))
unfolding unless_known
vehicle_of_row-duplicate nodes records row sorted vehicle is known there =
    vehicle_of_row-last nodes records row ∙ ap (λ r. r >>= unless_known records row) is
    ∙ ap (λ t. refused_where t (Duplicate (row + 1)) >>= λ _. Ok vehicle) (sym (known vehicle.id) ∙ there)

-- a row whose fields are refused
pub vehicle_of_row-fault : (nodes : List ℕ) (records : List (List (List ℕ))) (row : ℕ) (fault : FleetFault) →
    vehicle_in nodes [] (row + 1) (get_or records row []) ≡ Err fault → vehicle_of_row nodes records row ≡ Err fault
vehicle_of_row-fault nodes records row fault is = vehicle_of_row-last nodes records row ∙ ap (λ r. r >>= unless_known records row) is

-- the vehicles of few rows
vehicles_of-few : (nodes : List ℕ) (records : List (List (List ℕ))) → length records ≤ 500 →
    vehicles_of nodes records ≡ all_or_first (vehicle_of_row nodes records) (length records)
vehicles_of-few nodes records few =
    ap (λ b. cond b (Err TooManyVehicles) (all_or_first (vehicle_of_row nodes records) (length records))) (le-ltb 500 (length records) few)

-- the first row that is refused
pub vehicles_of-refused : (nodes : List ℕ) (records : List (List (List ℕ))) (row : ℕ) (vehicles : List Vehicle) (fault : FleetFault) → length records ≤ 500 →
    row < length records → all_or_first (vehicle_of_row nodes records) row ≡ Ok vehicles → vehicle_of_row nodes records row ≡ Err fault →
    vehicles_of nodes records ≡ Err fault
vehicles_of-refused nodes records row vehicles fault few within before here =
    vehicles_of-few nodes records few ∙ all_or_first-err (vehicle_of_row nodes records) (length records) row vehicles fault within before here

-- after the last row
pub vehicles_of-all : (nodes : List ℕ) (records : List (List (List ℕ))) (row : ℕ) (vehicles : List Vehicle) → length records ≤ 500 → row ≡ length records →
    all_or_first (vehicle_of_row nodes records) row ≡ Ok vehicles → vehicles_of nodes records ≡ Ok vehicles
vehicles_of-all nodes records row vehicles few all before =
    vehicles_of-few nodes records few ∙ ap (all_or_first (vehicle_of_row nodes records)) (sym all) ∙ before
