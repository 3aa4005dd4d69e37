-- The batch of a seal: what it shows, and what it keeps.
use Rattle.std.proofs.Common.{
  ◌≡◌,
  ◌≢◌,
  ℕ,
  zero,
  suc,
  ◌+◌,
  ◌≤◌,
  Bool,
  true,
  false,
  cond,
  List,
  [],
  ◌∷◌,
  ◌++◌,
  length,
  map,
  Option,
  Some,
  None,
  refl,
  sym,
  ap,
  subst,
  ◌∙◌,
  arith,
  is_some,
  option_map,
  option_and_then,
  count_by,
  rules,
}
use Rattle.request_book.proofs.Common.{
  cons_option,
  nat_tests,
  IsStrictlyIncreasing,
  length-map,
  sum_by-cons,
  IsKept,
  riders_aboard,
  Passenger,
  Rider,
  Vehicle,
  BookRider,
  Expired,
  State,
  IsConsistent,
  seat_in,
  look_up,
  by_key,
  KeysRise,
  KeysDiffer,
  changed_in_turn,
  pool_id,
  is_active,
  with_status,
  is_over,
  after_seal,
  batch_of,
  asking,
  over_id,
  find_rider,
  find_vehicle,
  find_passenger,
}
use Rattle.std.specs.List.{filter_map, All, AllPairs}
use Rattle.std.proofs.lemmas.List.{map-id, get_or-map}
use Rattle.request_book.proofs.lemmas.register.IndexLemmas.{IsPool, pool_id-keeps}
use Rattle.request_book.proofs.lemmas.register.SealLemmas.{changed_in_turn-marked, marked, map-agree}
use Rattle.request_book.proofs.lemmas.values.KeyedLemmas.{
  IsOrderOf,
  look_up-here,
  look_up-later,
  look_up-nil,
  look_up-key,
  look_up-at,
  pairs_from_rise,
  look_up-keys,
  differ-keys,
  look_up-filter_map,
  KeysDiffer-filter_map,
  KeysDiffer-from_rise,
  by_key-order,
  filter_map-by_key,
  made-rise,
  made-found,
  look_up-map,
  length-by_key,
  length-filter_map,
  All-from_look_up,
  All-look_up,
}

-- what is made of changed elements
filter_map-map : {X Y Z : Type 0} (h : Y → Option Z) (g : X → Y) (xs : List X) → filter_map h (map g xs) ≡ filter_map (λ x. h (g x)) xs
filter_map-map h g [] = refl
filter_map-map h g (x ∷ xs) = ap (cons_option (h (g x))) (filter_map-map h g xs)

module _ (wait now : ℕ) where
  abbrev pub shows : BookRider → Option Rider
  shows r = asking now (after_seal wait now r)

  -- who is shown is active, asked by now and still waits, and keeps their id
  pub record IsShown (r : BookRider) (y : Rider) : Type 0 where
    pub id : y.id ≡ r.id
    pub active : is_active r.status ≡ true
    pub asked : y.time ≤ now
    pub waits : is_over wait now r ≡ false
    pub origin : y.origin ≡ r.origin
    pub destination : y.destination ≡ r.destination

  pub shown-is : (r : BookRider) (y : Rider) → shows r ≡ Some y → IsShown r y
  shown-is r y e = search rules

  -- whose wait is over is active
  pub over-is : (r : BookRider) (n : ℕ) → over_id wait now r ≡ Some n → (n ≡ r.id) × (is_active r.status ≡ true)
  over-is r n e = grind arith

  module _ (pool : List ℕ) (riders : List BookRider) (up : KeysRise (λ id. id) pool) (differ : KeysDiffer (λ r. r.id) riders) (is : IsPool pool riders) where
    pub active-listed : (k : ℕ) (r : BookRider) → find_rider k riders ≡ Some r → is_active r.status ≡ true → look_up (λ id. id) k pool ≡ Some k
    active-listed k r found on = search (rules, option_and_then, look_up-key)

    pub batch-riders : filter_map (λ id. option_and_then (λ r. asking now (after_seal wait now r)) (find_rider id riders)) pool ≡ by_key (λ r. r.id)
        (filter_map (asking now) (map (after_seal wait now) riders))
    batch-riders =
        filter_map-by_key (λ (r : BookRider). r.id) (λ (y : Rider). y.id) shows (λ r y e. (shown-is r y e).id) pool riders up differ
        (λ k r y found e. active-listed k r found (shown-is r y e).active)
        ∙ sym (ap (by_key (λ (y : Rider). y.id)) (filter_map-map (asking now) (after_seal wait now) riders))

    pub batch-expired : filter_map (λ id. option_and_then (over_id wait now) (find_rider id riders)) pool ≡ by_key (λ id. id)
        (filter_map (over_id wait now) riders)
    batch-expired =
        filter_map-by_key (λ (r : BookRider). r.id) (λ n. n) (over_id wait now) (λ r n e. (over-is r n e).0) pool riders up differ
        (λ k r n found e. active-listed k r found (over-is r n e).1)

-- a test that asks for more passes fewer
pub count_by-le : {X : Type 0} (p q : X → Bool) → ((x : X) → p x ≡ true → q x ≡ true) → (xs : List X) → count_by p xs ≤ count_by q xs
count_by-le p q more [] = omega arith
count_by-le p q more (x ∷ xs) =
    grind (arith, more x, count_by-le p q more xs, sum_by-cons (λ y. cond (p y) 1 0) x xs, sum_by-cons (λ y. cond (q y) 1 0) x xs)

-- keys that rise are numbers that rise
pub increasing_from_rise : {X : Type 0} (key : X → ℕ) (xs : List X) → KeysRise key xs → IsStrictlyIncreasing (map key xs)
increasing_from_rise key [] up k in' = absurd (omega arith)
increasing_from_rise key (x ∷ xs) up k in' = grind (
  arith,
  nat_tests,
  (length-map (x ∷ xs) key),
  (pairs_from_rise key (x ∷ xs) up k (k + 1) x),
  (get_or-map key (x ∷ xs) k x 0),
  (get_or-map key (x ∷ xs) (k + 1) x 0),
)

-- numbers of which none is found twice
once_from_differ : (ids : List ℕ) → KeysDiffer (λ n. n) ids → AllPairs (λ id other. id ≢ other) ids
unfolding KeysDiffer look_up
once_from_differ [] differ i j d lt in' e = omega arith
once_from_differ (x ∷ xs) differ i zero d lt in' e = omega arith
once_from_differ (x ∷ xs) differ zero (suc j) d lt in' e = grind (arith, nat_tests, differ.0, look_up-at (λ n. n) j xs d differ.1)
once_from_differ (x ∷ xs) differ (suc i) (suc j) d lt in' e = once_from_differ xs differ.1 i j d (omega arith) (omega arith) e

look_up-append_none : (k : ℕ) (xs ys : List ℕ) → look_up (λ n. n) k xs ≡ None → look_up (λ n. n) k ys ≡ None → look_up (λ n. n) k (xs ++ ys) ≡ None
unfolding look_up
look_up-append_none k [] ys a b = b
look_up-append_none k (x ∷ xs) ys a b = grind (arith, nat_tests, look_up-append_none k xs ys)

differ-append : (xs ys : List ℕ) → KeysDiffer (λ n. n) xs → KeysDiffer (λ n. n) ys → ((k : ℕ) → look_up (λ n. n) k xs ≡ Some k → look_up (λ n. n) k ys ≡ None) →
    KeysDiffer (λ n. n) (xs ++ ys)
unfolding KeysDiffer
differ-append [] ys d e apart = e
differ-append (x ∷ xs) ys d e apart = search (rules, (look_up-append_none x xs ys), look_up-here, look_up-later, (differ-append xs ys))

-- who is in the pool is aboard of no vehicle
pub seatless : (r : BookRider) (x : ℕ) → is_active r.status ≡ true → seat_in x r ≡ None
seatless r x on = grind arith

-- who is aboard of some vehicle
module _ (riders : List BookRider) where
  -- the passengers of these vehicles are those whose status says so
  abbrev Seated : List Vehicle → Type 0
  Seated vs = (x : ℕ) (v : Vehicle) (k : ℕ) → find_vehicle x vs ≡ Some v → find_passenger k v.aboard.items ≡ option_and_then (seat_in x) (find_rider k riders)

  -- a seat in one vehicle is no seat in another one
  apart : (x y k : ℕ) (p : Passenger) → (x ≡ y → ⊥) → option_and_then (seat_in x) (find_rider k riders) ≡ Some p →
      option_and_then (seat_in y) (find_rider k riders) ≡ None
  apart x y k p ne e = grind (arith, nat_tests)

  nobody : (k : ℕ) (vs : List Vehicle) → KeysDiffer (λ v. v.id) vs → Seated vs → ((x : ℕ) (v : Vehicle) → find_vehicle x vs ≡ Some v →
      option_and_then (seat_in x) (find_rider k riders) ≡ None) → look_up (λ n. n) k (riders_aboard vs) ≡ None
  unfolding KeysDiffer
  nobody k [] d seated none = look_up-nil (λ n. n) k
  nobody k (v ∷ vs) d seated none =
      let here = look_up-here (λ (u : Vehicle). u.id) v.id v vs refl in
      look_up-append_none k (map (λ p. p.rider) v.aboard.items) (riders_aboard vs)
      (look_up-keys (λ (p : Passenger). p.rider) k v.aboard.items ∙ ap (option_map (λ (p : Passenger). p.rider)) (seated v.id v k here ∙ none v.id v here))
      (nobody k vs d.1
      (λ x u j found. seated x u j (later x u found))
      (λ x u found. none x u (later x u found)))
    where
      later : (x : ℕ) (u : Vehicle) → find_vehicle x vs ≡ Some u → find_vehicle x (v ∷ vs) ≡ Some u
      later x u found = look_up-later (λ (u : Vehicle). u.id) x v vs u d.0 found

  aboard-differ : (vs : List Vehicle) → KeysDiffer (λ v. v.id) vs → Seated vs → ((x : ℕ) (v : Vehicle) → find_vehicle x vs ≡ Some v →
      KeysDiffer (λ p. p.rider) v.aboard.items) → KeysDiffer (λ n. n) (riders_aboard vs)
  unfolding KeysDiffer
  aboard-differ [] d seated each = tt
  aboard-differ (v ∷ vs) d seated each =
      let here = look_up-here (λ (u : Vehicle). u.id) v.id v vs refl in
      differ-append (map (λ p. p.rider) v.aboard.items) (riders_aboard vs)
      (differ-keys (λ (p : Passenger). p.rider) v.aboard.items (each v.id v here))
      (aboard-differ vs d.1 (λ x u j found. seated x u j (later x u found)) (λ x u found. each x u (later x u found)))
      (λ k found. nobody k vs d.1 (λ x u j at. seated x u j (later x u at))
      (λ x u at. elsewhere k (find_passenger k v.aboard.items) refl found x u at))
    where
      later : (x : ℕ) (u : Vehicle) → find_vehicle x vs ≡ Some u → find_vehicle x (v ∷ vs) ≡ Some u
      later x u found = look_up-later (λ (u : Vehicle). u.id) x v vs u d.0 found

      elsewhere : (k : ℕ) (o : Option Passenger) → find_passenger k v.aboard.items ≡ o → look_up (λ n. n) k (map (λ p. p.rider) v.aboard.items) ≡ Some k →
          (x : ℕ) (u : Vehicle) → find_vehicle x vs ≡ Some u → option_and_then (seat_in x) (find_rider k riders) ≡ None
      elsewhere k None e found x u at = let none = look_up-keys (λ (p : Passenger). p.rider) k v.aboard.items ∙
          ap (option_map (λ (p : Passenger). p.rider)) e in absurd cc
      elsewhere k (Some p) e found x u at =
          apart v.id x k p (λ s. let none = subst (λ j. find_vehicle j vs ≡ None) s d.0 in absurd cc)
          (sym (seated v.id v k (look_up-here (λ (u : Vehicle). u.id) v.id v vs refl)) ∙ e)

-- the batch of a consistent state keeps what a snapshot keeps
module _ (wait now : ℕ) (s : State) (kept : IsConsistent s) where
  batch-seated : Seated s.riders s.vehicles
  batch-seated x v k found = sym (ap (option_and_then (λ (u : Vehicle). find_passenger k u.aboard.items)) found) ∙ kept.aboard x k

  abbrev pub shown-list : List Rider
  shown-list = filter_map (shows wait now) s.riders

  shown-differ : KeysDiffer (λ r. r.id) shown-list
  shown-differ = KeysDiffer-filter_map (λ (r : BookRider). r.id) (λ (y : Rider). y.id) (shows wait now) (λ r y e. (shown-is wait now r y e).id) s.riders
      kept.riders_differ

  shown-found : (k : ℕ) (y : Rider) → look_up (λ r. r.id) k shown-list ≡ Some y → (r : BookRider) × (find_rider k s.riders ≡ Some r) × IsShown wait now r y
  shown-found k y found =
      by (find_rider k s.riders) refl (sym (look_up-filter_map (λ (r : BookRider). r.id) (λ (y : Rider). y.id) (shows wait now)
      (λ r y e. (shown-is wait now r y e).id) k s.riders kept.riders_differ) ∙ found)
    where
      by : (o : Option BookRider) → find_rider k s.riders ≡ o → option_and_then (shows wait now) o ≡ Some y →
          (r : BookRider) × (find_rider k s.riders ≡ Some r) × IsShown wait now r y
      by None e f = absurd cc
      by (Some r) e f = (r, e, shown-is wait now r y f)

  abbrev pub batch-list : List Rider
  batch-list = by_key (λ r. r.id) (filter_map (asking now) (map (after_seal wait now) s.riders))

  batch-list-is : batch-list ≡ by_key (λ r. r.id) shown-list
  batch-list-is = ap (by_key (λ (y : Rider). y.id)) (filter_map-map (asking now) (after_seal wait now) s.riders)

  batch-rise : KeysRise (λ r. r.id) batch-list
  batch-rise = subst (KeysRise (λ r. r.id)) (sym batch-list-is) (by_key-order (λ (y : Rider). y.id) shown-list shown-differ).rise

  batch-found : (k : ℕ) (y : Rider) → look_up (λ r. r.id) k batch-list ≡ Some y → (r : BookRider) × (find_rider k s.riders ≡ Some r) × IsShown wait now r y
  batch-found k y found = search (rules, shown-found, by_key-order, shown-differ, batch-list-is)

  pub batch-each : (P : Rider → Type 0) → ((k : ℕ) (r : BookRider) (y : Rider) → find_rider k s.riders ≡ Some r → IsShown wait now r y → P y) → All P batch-list
  batch-each P each = All-from_look_up (λ (y : Rider). y.id) P batch-list (KeysDiffer-from_rise (λ (y : Rider). y.id) batch-list batch-rise)
      (λ k y found. let at = batch-found k y found in each k at.0 y at.1 at.2)

  few : length batch-list ≤ 1000
  few = search (rules, count_by-le, is_some, batch-list-is, length-by_key, length-filter_map)

  abbrev expired-list : List ℕ
  expired-list = by_key (λ n. n) (filter_map (over_id wait now) s.riders)

  expired-order : IsOrderOf (λ n. n) (filter_map (over_id wait now) s.riders) expired-list
  expired-order = by_key-order (λ n. n) (filter_map (over_id wait now) s.riders) (KeysDiffer-filter_map (λ (r : BookRider). r.id) (λ n. n) (over_id wait now)
      (λ r n e. (over-is wait now r n e).0) s.riders kept.riders_differ)

  expired-found : (k : ℕ) → look_up (λ n. n) k expired-list ≡ option_and_then (over_id wait now) (find_rider k s.riders)
  expired-found k = expired-order.found k ∙ look_up-filter_map (λ (r : BookRider). r.id) (λ n. n) (over_id wait now) (λ r n e. (over-is wait now r n e).0) k
      s.riders kept.riders_differ

  -- whose wait is over doesn't wait in the batch
  unlisted : (k : ℕ) → look_up (λ n. n) k expired-list ≡ Some k → look_up (λ n. n) k (map (λ r. r.id) batch-list) ≡ None
  unlisted k listed = search (rules, look_up-keys, option_map, batch-found, expired-list, expired-found, option_and_then)

  vehicles-differ : KeysDiffer (λ v. v.id) s.vehicles
  vehicles-differ = KeysDiffer-from_rise (λ (v : Vehicle). v.id) s.vehicles kept.vehicles_rise

  passengers-differ : KeysDiffer (λ n. n) (riders_aboard s.vehicles)
  passengers-differ =
      aboard-differ s.riders s.vehicles vehicles-differ batch-seated (λ x v found. All-look_up (λ (v : Vehicle). v.id)
      (λ (u : Vehicle). KeysDiffer (λ p. p.rider) u.aboard.items) x s.vehicles v kept.passengers found)

  batch-differ : KeysDiffer (λ n. n) (map (λ r. r.id) batch-list ++ riders_aboard s.vehicles)
  batch-differ =
      differ-append (map (λ r. r.id) batch-list) (riders_aboard s.vehicles)
      (differ-keys (λ (y : Rider). y.id) batch-list (KeysDiffer-from_rise (λ (y : Rider). y.id) batch-list batch-rise))
      passengers-differ
      (λ k found. nobody s.riders k s.vehicles vehicles-differ batch-seated (λ x v at. waiting k (look_up (λ (y : Rider). y.id) k batch-list) refl found x))
    where
      waiting : (k : ℕ) (o : Option Rider) → look_up (λ r. r.id) k batch-list ≡ o → look_up (λ n. n) k (map (λ r. r.id) batch-list) ≡ Some k → (x : ℕ) →
          option_and_then (seat_in x) (find_rider k s.riders) ≡ None
      waiting k None e found x = let none = look_up-keys (λ (y : Rider). y.id) k batch-list ∙ ap (option_map (λ (y : Rider). y.id)) e in absurd cc
      waiting k (Some y) e found x = let at = batch-found k y e in ap (option_and_then (seat_in x)) at.1 ∙ seatless at.0 x at.2.active

  -- whose wait is over was in the pool, and so is aboard of no vehicle
  over-seatless : (k : ℕ) → look_up (λ n. n) k expired-list ≡ Some k → (x : ℕ) → option_and_then (seat_in x) (find_rider k s.riders) ≡ None
  over-seatless k listed x = search (rules, expired-found, option_and_then, seatless, over-is)

  batch-once : AllPairs (λ id other. id ≢ other) (expired-list ++ (map (λ r. r.id) batch-list ++ riders_aboard s.vehicles))
  batch-once =
      once_from_differ (expired-list ++ (map (λ r. r.id) batch-list ++ riders_aboard s.vehicles))
      (differ-append expired-list (map (λ r. r.id) batch-list ++ riders_aboard s.vehicles) (KeysDiffer-from_rise (λ n. n) expired-list expired-order.rise)
      batch-differ
      (λ k listed. look_up-append_none k (map (λ r. r.id) batch-list) (riders_aboard s.vehicles) (unlisted k listed)
      (nobody s.riders k s.vehicles vehicles-differ batch-seated (λ x v at. over-seatless k listed x))))

  pub batch-kept : IsKept (batch_of wait s now)
  unfolding batch_of
  batch-kept = record {
    vehicle_count = kept.vehicle_count;
    rider_count = few;
    vehicles_rise = increasing_from_rise (λ (v : Vehicle). v.id) s.vehicles kept.vehicles_rise;
    riders_rise = increasing_from_rise (λ (y : Rider). y.id) batch-list batch-rise;
    expired_rise = subst IsStrictlyIncreasing (map-id expired-list) (increasing_from_rise (λ n. n) expired-list expired-order.rise);
    seats = kept.seats;
    asked = batch-each (λ (y : Rider). y.time ≤ now) (λ k r y found is. is.asked);
    once = batch-once;
  }

-- what a seal makes of the riders and the pool
module _ (wait now : ℕ) where
  pub after_seal-id : (r : BookRider) → (after_seal wait now r).id ≡ r.id
  after_seal-id r = grind arith

  pub after_seal-active : (r : BookRider) → is_active (after_seal wait now r).status ≡ true → is_active r.status ≡ true
  after_seal-active r e = grind arith

  module _ (riders : List BookRider) (differ : KeysDiffer (λ r. r.id) riders) where
    -- who expires in turn
    pub expired-map : changed_in_turn (λ r. r.id) (with_status Expired) (by_key (λ id. id) (filter_map (over_id wait now) riders)) riders ≡ map
        (after_seal wait now) riders
    unfolding marked
    expired-map =
        changed_in_turn-marked (λ r. r.id) (with_status Expired) (λ r. refl) (λ r. refl) (by_key (λ id. id) (filter_map (over_id wait now) riders)) riders
        ∙ map-agree (λ r. r.id) (marked (λ r. r.id) (with_status Expired) (by_key (λ id. id) (filter_map (over_id wait now) riders))) (after_seal wait now)
        riders differ (λ k r found. ap (λ b. cond b (with_status Expired r) r) (over k r found))
      where
        own : (r : BookRider) (n : ℕ) → over_id wait now r ≡ Some n → n ≡ r.id
        own r n e = (over-is wait now r n e).0

        over : (k : ℕ) (r : BookRider) → find_rider k riders ≡ Some r → is_some (look_up (λ n. n) r.id
            (by_key (λ id. id) (filter_map (over_id wait now) riders))) ≡ is_over wait now r
        over k r found =
            let order = by_key-order (λ n. n) (filter_map (over_id wait now) riders) (KeysDiffer-filter_map (λ (r : BookRider). r.id) (λ n. n)
            (over_id wait now) own riders differ) in
            let made = order.found r.id ∙ look_up-filter_map (λ (r : BookRider). r.id) (λ n. n) (over_id wait now) own r.id riders differ in
            let same = look_up-key (λ (r : BookRider). r.id) k riders r found in
            let at : find_rider r.id riders ≡ Some r = cc in
            grind arith
