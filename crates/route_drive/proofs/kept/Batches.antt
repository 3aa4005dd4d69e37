-- At a seal the stops of each vehicle serve, by the batch's table, its passengers and the riders promised to it.
use Rattle.std.proofs.Common.{
  ◌≡◌,
  ℕ,
  suc,
  ◌<◌,
  ◌≤◌,
  false,
  nat_eq,
  List,
  [],
  ◌∷◌,
  length,
  get_or,
  map,
  Option,
  Some,
  None,
  refl,
  sym,
  ap,
  ◌∙◌,
  arith,
  inl,
  inr,
  slice_get,
}
use Rattle.route_drive.proofs.Common.{
  AllByRecursion,
  IsDistinct,
  cases_eq,
  sum_by-cons,
  Passenger,
  Promise,
  Rider,
  look_up,
  KeysDiffer,
  shown,
  pool_promise,
  passenger_of,
  find_rider,
  BookRider,
  Promised,
  Aboard,
  State,
  Leg,
  leg_at,
  persons,
  IsTrip,
  request_at,
  no_request,
  KeysDiffer-from_rise,
  length-map,
  get_or-map,
  index_in,
  KeysRise,
  ne_eqb,
  sum_by,
  below_from_sorted,
  nat_tests,
  sorted_from_strictly_increasing,
}
use Rattle.route_drive.proofs.kept.Walks.{index_at}
use Rattle.std.proofs.lemmas.Map.Keys.{IsDistinct-from_apart}

-- where a list has what is looked up
pub found_at : {X : Type 0} (key : X → ℕ) (k : ℕ) (xs : List X) (x : X) → look_up key k xs ≡ Some x → (i : ℕ) × (i < length xs) × ((d : X) → get_or xs i d ≡ x)
unfolding look_up
found_at key k [] x e = absurd cc
found_at key k (y ∷ ys) x e = elim (cases_eq (key y) k) [
  | inl same ↦ (0, omega arith, λ d. grind (arith, nat_tests))
  | inr ne ↦ let rest = found_at key k ys x (grind (arith, nat_tests)) in (suc rest.0, omega (arith, rest.1), rest.2)
]

-- names of which none stands twice
none_of_name : {X : Type 0} (key : X → ℕ) (k : ℕ) (xs : List X) → look_up key k xs ≡ None → AllByRecursion (λ y. nat_eq k y ≡ false) (map key xs)
unfolding look_up
none_of_name key k [] none = tt
none_of_name key k (x ∷ xs) none = grind (arith, nat_tests, none_of_name key k xs)

pub distinct_from_differ : {X : Type 0} (key : X → ℕ) (xs : List X) → KeysDiffer key xs → IsDistinct nat_eq (map key xs)
unfolding KeysDiffer IsDistinct
distinct_from_differ key [] differ = tt
distinct_from_differ key (x ∷ xs) differ = (none_of_name key (key x) xs differ.0, distinct_from_differ key xs differ.1)

-- a key stands at one place
pub same_place : {X : Type 0} (key : X → ℕ) (xs : List X) → KeysDiffer key xs → (i j : ℕ) (d e : X) → i < length xs → j < length xs →
    key (get_or xs i d) ≡ key (get_or xs j e) → i ≡ j
same_place key xs differ i j d e li lj same =
    let distinct = distinct_from_differ key xs differ in
    let n = length-map xs key in
    sym (index_at (map key xs) i distinct (omega (arith, li, n))) ∙ ap (index_in (map key xs))
    (get_or-map key xs i d 0 li ∙ same ∙ sym (get_or-map key xs j e 0 lj)) ∙ index_at (map key xs) j distinct (omega (arith, lj, n))

-- requests of different numbers have different ids
pub other_id : (riders : List Rider) → KeysRise (λ (r : Rider). r.id) riders → (r q : ℕ) → r < length riders → q < length riders →
    (request_at riders r).id ≡ (request_at riders q).id → r ≡ q
other_id riders rise r q lr lq e = same_place (λ (r : Rider). r.id) riders (KeysDiffer-from_rise (λ (r : Rider). r.id) riders rise) r q no_request no_request lr
    lq e

-- and so the riders of a trip
pub ids_distinct : (riders : List Rider) → KeysRise (λ (r : Rider). r.id) riders → (trip : List ℕ) → IsTrip (length riders) trip →
    IsDistinct nat_eq (map (λ n. (request_at riders n).id) trip)
ids_distinct riders rise trip is = IsDistinct-from_apart nat_eq (map (λ n. (request_at riders n).id) trip) (λ i j d h l.
    let n = length-map trip (λ n. (request_at riders n).id) in
    let lj : j < length trip = omega (arith, l, n) in
    let li : i < length trip = omega (arith, h, lj) in
    ne_eqb (get_or (map (λ n. (request_at riders n).id) trip) i d) (get_or (map (λ n. (request_at riders n).id) trip) j d) (λ same.
    let one = other_id riders rise (get_or trip i 0) (get_or trip j 0) (is.within i 0 li) (is.within j 0 lj)
    (sym (get_or-map (λ n. (request_at riders n).id) trip i 0 d li) ∙ same ∙ get_or-map (λ n. (request_at riders n).id) trip j 0 d lj) in
    omega (arith, one, below_from_sorted trip i j 0 (sorted_from_strictly_increasing trip is.rising) h lj)))

-- legs have the parties of their passengers
pub same_persons : (legs : List Leg) (ps : List Passenger) → length legs ≡ length ps → ((k : ℕ) (p : Passenger) → slice_get ps k ≡ Some p →
    (leg_at legs k).party ≡ p.party) → persons legs ≡ sum_by (λ p. p.party) ps
same_persons [] [] count each = refl
same_persons (leg ∷ legs) (p ∷ ps) count each =
    omega (
      arith,
      each 0 p refl,
      same_persons legs ps (omega arith) (λ k q e. each (suc k) q e),
      sum_by-cons (λ (l : Leg). l.party) leg legs,
      sum_by-cons
          (λ (p : Passenger). p.party) p ps,
    )
same_persons legs ps count each = absurd (omega (arith, count))

-- whom a batch shows waits or has a promise
pub record IsAsking (now : ℕ) (r : BookRider) (q : Rider) : Type 0 where
  pub promise : Option Promise
  pub pool : pool_promise r.status ≡ Some promise
  pub is : q ≡ shown r promise
  pub asked : r.time ≤ now

-- a request that is promised to a vehicle
pub record IsPromisedRider (s : State) (vehicle : ℕ) (id : ℕ) (q : Rider) : Type 0 where
  pub rider : BookRider
  pub found : find_rider id s.riders ≡ Some rider
  pub promise : Promise
  pub status : rider.status ≡ Promised promise
  pub own : promise.vehicle ≡ vehicle
  pub is : q ≡ shown rider (Some promise)

-- a passenger and their rider
pub record IsRiderAboard (s : State) (vehicle : ℕ) (id : ℕ) (p : Passenger) : Type 0 where
  pub rider : BookRider
  pub found : find_rider id s.riders ≡ Some rider
  pub status : rider.status ≡ Aboard vehicle
  pub is : passenger_of rider ≡ p
