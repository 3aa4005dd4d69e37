use Rattle.std.proofs.Common.{
  ◌≡◌,
  ◌≢◌,
  ℕ,
  zero,
  suc,
  ◌+◌,
  ◌-◌,
  ◌<◌,
  ◌≤◌,
  Bool,
  true,
  false,
  ◌||◌,
  eqb,
  nat_lt,
  List,
  [],
  ◌∷◌,
  ◌++◌,
  map,
  length,
  get_or,
  take,
  drop,
  sym,
  ap,
  subst,
  ◌∙◌,
  inl,
  inr,
  arith,
}
use Rattle.input_rows.proofs.Common.{
  AllWithin,
  list_any,
  prefix_len,
  cases_lt,
  cond-true,
  cond-false,
  map-append,
  take-map,
  drop-map,
  get_or-map,
  get_or_default,
  length-map,
  length-insert,
  get_or-insert_below,
  get_or-insert_at,
  get_or-insert_above,
  All-append,
  All-cons,
  All-take,
  All-drop,
  list_any_none,
  list_any_at,
  Vehicle,
  HasSeats,
  IsFleet,
  empty_vehicle,
  has_vehicle,
  has_id_at,
  IsPlaceOf,
}
use Rattle.std.specs.List.{All, insert}
use Rattle.std.specs.List.Sorted.{IsStrictlyIncreasing, IsNonDecreasingBy, IsPartitionPoint}
use Rattle.std.proofs.lemmas.Bool.{ltb-true, ne_eqb}
use Rattle.std.proofs.lemmas.Bool.Decides.{nat_tests}
use Rattle.std.proofs.lemmas.List.Kept.{AllPairs-from_increasing}
use Rattle.std.proofs.lemmas.List.Sorted.{list_any-IsPermutation, IsPermutation-insert}

-- one more element, at any place, is found as if it stood in front
pub list_any-insert : {X : Type 0} (p : X → Bool) (xs : List X) (i : ℕ) (x : X) → list_any p (insert xs i x) ≡ (p x || list_any p xs)
list_any-insert p xs i x = sym (list_any-IsPermutation p (x ∷ xs) (insert xs i x) (IsPermutation-insert xs i x))

-- where a list passes up to a place and fails from it on, its front that passes ends there
prefix_len-point : {X : Type 0} (p : X → Bool) (xs : List X) (i : ℕ) → i ≤ length xs → AllWithin (λ x. p x ≡ true) xs 0 i →
    AllWithin (λ x. p x ≡ false) xs i (length xs) → prefix_len p xs ≡ i
prefix_len-point p [] i inside passes fails = omega arith
prefix_len-point p (x ∷ xs) zero inside passes fails = cond-false (p x) (1 + prefix_len p xs) 0 (fails 0 x (omega arith) (omega arith))
prefix_len-point p (x ∷ xs) (suc i) inside passes fails =
    let rest : prefix_len p xs ≡ i =
    prefix_len-point p xs i (omega arith) (λ k d low high. passes (suc k) d (omega arith) (omega arith))
    (λ k d low high. fails (suc k) d (omega arith) (omega arith)) in
    cond-true (p x) (1 + prefix_len p xs) 0 (passes 0 x (omega arith) (omega arith)) ∙ omega (arith, rest)

-- numbers rise with one more between the lower ones and the higher ones
rises-insert : (ns : List ℕ) (i n : ℕ) → IsStrictlyIncreasing ns → i ≤ length ns → ((k : ℕ) → k < i → get_or ns k 0 < n) →
    ((k : ℕ) → i ≤ k → k < length ns → n < get_or ns k 0) → IsStrictlyIncreasing (insert ns i n)
rises-insert ns i n up inside low high k within =
    grind (
      arith,
      length-insert ns i n inside,
      up k,
      up (k - 1),
      low k,
      high k,
      get_or-insert_at ns i n 0 inside,
      get_or-insert_below ns i n 0 k,
      get_or-insert_below ns i n 0 (k + 1),
      get_or-insert_above ns i n 0 k,
      get_or-insert_above ns i n 0 (k - 1),
    )

map-insert : {X Y : Type 0} (f : X → Y) (xs : List X) (i : ℕ) (x : X) → map f (insert xs i x) ≡ insert (map f xs) i (f x)
map-insert f xs i x =
    map-append f (take i xs) (x ∷ drop i xs)
    ∙ ap (λ ys. ys ++ f x ∷ map f (drop i xs)) (sym (take-map f i xs))
    ∙ ap (λ ys. take i (map f xs) ++ f x ∷ ys) (sym (drop-map f i xs))

-- what holds of a list and of one more element holds with the element in it
pub All-insert : {X : Type 0} (P : X → Type 0) (xs : List X) (i : ℕ) (x : X) → All P xs → P x → All P (insert xs i x)
All-insert P xs i x all here = All-append P (take i xs) (x ∷ drop i xs) (All-take P i xs all) (All-cons P x (drop i xs) here (All-drop P i xs all))

-- the ids of vehicles
abbrev ids : List Vehicle → List ℕ
ids vehicles = map (λ v. v.id) vehicles

id_at : (vehicles : List Vehicle) (k : ℕ) (d : Vehicle) → k < length vehicles → get_or (ids vehicles) k 0 ≡ (get_or vehicles k d).id
id_at vehicles k d within = get_or-map (λ (v : Vehicle). v.id) vehicles k d 0 within

-- a fleet with one more vehicle at its place is a fleet
pub IsFleet-insert : (vehicles : List Vehicle) (vehicle : Vehicle) (place : ℕ) → IsFleet vehicles → length vehicles < 500 →
    IsPlaceOf vehicles vehicle.id place → HasSeats vehicle → length vehicle.aboard.items ≡ 0 → IsFleet (insert vehicles place vehicle)
IsFleet-insert vehicles vehicle place fleet few at seats empty =
    let inside = at.inside in
    let size : length (ids vehicles) ≡ length vehicles = length-map vehicles (λ (v : Vehicle). v.id) in
    let low : (k : ℕ) → k < place → get_or (ids vehicles) k 0 < vehicle.id = λ k below. omega
    (arith, id_at vehicles k vehicle (omega arith), at.lower k vehicle (omega arith) below) in
    let high : (k : ℕ) → place ≤ k → k < length (ids vehicles) → vehicle.id < get_or (ids vehicles) k 0 =
    λ k above within. omega (arith, size, id_at vehicles k vehicle (omega (arith, size)), at.higher k vehicle above (omega (arith, size))) in
    record {
      count = omega (arith, length-insert vehicles place vehicle inside);
      rise = subst IsStrictlyIncreasing (sym (map-insert (λ (v : Vehicle). v.id) vehicles place vehicle))
          (rises-insert (ids vehicles) place vehicle.id fleet.rise (omega (arith, size)) low high);
      seats = All-insert HasSeats vehicles place vehicle fleet.seats seats;
      empty = All-insert (λ v. length v.aboard.items ≡ 0) vehicles place vehicle fleet.empty empty;
    }

-- an id that stands at a place is there
pub has_id_at-found : (vehicles : List Vehicle) (place id : ℕ) → has_id_at vehicles place id ≡ true → has_vehicle vehicles id ≡ true
has_id_at-found vehicles place id stands =
    list_any_at (λ v. eqb v.id id) vehicles place (empty_vehicle 0 0 0 0) (grind (arith, nat_tests)) (grind (arith, nat_tests))

-- where an id doesn't stand at a place, another does or none
pub has_id_at-other : (vehicles : List Vehicle) (place id : ℕ) → has_id_at vehicles place id ≡ false → (d : Vehicle) → place < length vehicles →
    (get_or vehicles place d).id ≢ id
has_id_at-other vehicles place id stands d within same =
    let read = get_or_default vehicles place d (empty_vehicle 0 0 0 0) within in grind (arith, nat_tests)

-- rising ids don't fall
pub IsNonDecreasingBy-ids : (vehicles : List Vehicle) → IsStrictlyIncreasing (ids vehicles) → IsNonDecreasingBy (λ v. v.id) vehicles
IsNonDecreasingBy-ids vehicles up i j d before within =
    grind (arith, length-map vehicles (λ (v : Vehicle). v.id), AllPairs-from_increasing (ids vehicles) up i j 0, id_at vehicles i d, id_at vehicles j d)

-- a place behind all lower ids, at which another id stands or none, is the place of a new id
pub place_between : (vehicles : List Vehicle) (id place : ℕ) → IsStrictlyIncreasing (ids vehicles) → place ≤ length vehicles →
    IsPartitionPoint (λ v. nat_lt v.id id ≡ true) (λ v. nat_lt v.id id ≡ false) vehicles place →
    ((d : Vehicle) → place < length vehicles → (get_or vehicles place d).id ≢ id) → IsPlaceOf vehicles id place
place_between vehicles id place up inside point other =
    let size : length (ids vehicles) ≡ length vehicles = length-map vehicles (λ (v : Vehicle). v.id) in
    let lower : AllWithin (λ v. v.id < id) vehicles 0 place = λ k d low below. ltb-true (get_or vehicles k d).id id (point.0 k d low below) in
    let higher : AllWithin (λ v. id < v.id) vehicles place (length vehicles) = λ k d above within.
    let at = point.1 place d (omega arith) (omega arith) in
    let not_here = other d (omega arith) in
    grind (arith, nat_tests, AllPairs-from_increasing (ids vehicles) up place k 0, id_at vehicles place d, id_at vehicles k d) in
    let apart : All (λ v. eqb v.id id ≡ false) vehicles = λ k d within.
    elim (cases_lt k place) [
      | inl below ↦ (let less : (get_or vehicles k d).id < id = lower k d (omega arith) below in ne_eqb (get_or vehicles k d).id id
          (λ e. omega (arith, less, e)))
      | inr above ↦ (let more : id < (get_or vehicles k d).id = higher k d above within in ne_eqb (get_or vehicles k d).id id (λ e. omega (arith, more, e)))
    ] in
    record {
      new = list_any_none (λ v. eqb v.id id) vehicles apart;
      place_is = sym (prefix_len-point (λ v. nat_lt v.id id) vehicles place inside point.0 point.1);
      inside = inside;
      lower = lower;
      higher = higher;
    }
