-- What every state of a book keeps is kept by each step.
use Rattle.std.proofs.Common.{
  rules,
  ◌≡◌,
  ℕ,
  ◌+◌,
  ◌<◌,
  ◌≤◌,
  Bool,
  true,
  false,
  cond,
  eqb,
  List,
  [],
  ◌∷◌,
  ◌++◌,
  length,
  map,
  Option,
  Some,
  None,
  refl,
  sym,
  ap,
  subst,
  ◌∙◌,
  arith,
  option_map,
  option_and_then,
  count_by,
}
use Rattle.request_book.proofs.Common.{
  nat_tests,
  length-map,
  sum_by-cons,
  sum_by_push,
  Batch,
  HasSeats,
  persons_aboard,
  Passenger,
  Rider,
  Vehicle,
  Command,
  Submit,
  Cancel,
  Report,
  Pickup,
  Dropoff,
  Seal,
  Close,
  Answer,
  Overflow,
  Planned,
  BookRefusal,
  Reply,
  Accepted,
  Cancelled,
  Placed,
  Picked,
  Dropped,
  Sealed,
  Closed,
  BookRider,
  Status,
  Waiting,
  Aboard,
  Delivered,
  State,
  Pick,
  after_answer,
  after_plan,
  picks,
  takes_in,
  lets_out,
  closed_state,
  AreConsistent,
  IsConsistent,
  seat_in,
  changed_at,
  without,
  KeysRise,
  KeysDiffer,
  first_of,
  unknown_vehicle,
  unknown_rider,
  is_aboard,
  has_ended,
  not_promised,
  not_aboard,
  time_back,
  vehicle_full,
  seat_refusal,
  not_this_batch,
  is_active,
  vehicle_of,
  with_status,
  passenger_of,
  after_seal,
  sealed_state,
  one_more,
  find_rider,
  find_vehicle,
  find_passenger,
  pool_count,
  rider_becomes,
  vehicle_becomes,
  step,
  stands_at,
  answer,
  picked_up,
  dropped_off,
  submit_refusal,
  submit_step,
  cancel_step,
  report_step,
  pickup_step,
  dropoff_step,
  seal_refusal,
  seal_step,
  close_step,
  table_step,
}
use Rattle.std.specs.List.{All, sum_by}
use Rattle.std.proofs.lemmas.Bool.{eq-eqb}
use Rattle.std.proofs.lemmas.List.{length-append}
use Rattle.request_book.specs.declared.values.rider.Status.TheVariants.{Cancelled as GivenUp}
use Rattle.request_book.proofs.lemmas.register.BatchLemmas.{after_seal-id, after_seal-active, seatless}
use Rattle.request_book.proofs.lemmas.register.CloseLemmas.{after_plan-id, after_plan-active}
use Rattle.request_book.proofs.lemmas.values.KeyedLemmas.{
  at_each,
  look_up-key,
  look_up-map,
  look_up-changed_here,
  look_up-changed_there,
  look_up-push_here,
  look_up-push_there,
  look_up-without_here,
  look_up-without_there,
  KeysDiffer-push,
  KeysDiffer-map,
  KeysDiffer-changed_at,
  KeysDiffer-from_rise,
  KeysDiffer-without,
  KeysRise-changed_at,
  All-changed_at,
  length-changed_at,
}
use Rattle.request_book.proofs.lemmas.register.StepTable.{step-table}
use Rattle.request_book.proofs.lemmas.register.StepLemmas.{first_of-none, active_left, submit-fits, closed-some}

-- an answer keeps what the old state keeps, and the new one where nothing is refused
pub answer-keeps : (P : State → Type 0) (s : State) (o : Option BookRefusal) (reply : Reply) (next : State) → P s → (o ≡ None → P next) →
    P (answer s o reply next).0
answer-keeps P s None reply next old new = new refl
answer-keeps P s (Some refusal) reply next old new = old

-- seats: whom a vehicle holds, and whose status says that they are in it
abbrev pub held : ℕ → ℕ → List Vehicle → Option Passenger
held x k vehicles = option_and_then (λ v. find_passenger k v.aboard.items) (find_vehicle x vehicles)

abbrev pub seated : ℕ → ℕ → List BookRider → Option Passenger
seated x k riders = option_and_then (seat_in x) (find_rider k riders)

seated_elsewhere : (r : BookRider) (x y : ℕ) → vehicle_of r.status ≡ Some y → (y ≡ x → ⊥) → seat_in x r ≡ None
seated_elsewhere r x y e ne = grind (arith, nat_tests)

carried : (vehicle : ℕ) (t : Status) → seat_refusal vehicle t ≡ None → vehicle_of t ≡ Some vehicle
carried vehicle t e = grind (arith, nat_tests)

-- fewer pass where a change lets nobody else pass
count_by-map_le : {X : Type 0} (p : X → Bool) (f : X → X) → ((x : X) → p (f x) ≡ true → p x ≡ true) → (xs : List X) → count_by p (map f xs) ≤ count_by p xs
count_by-map_le p f lower [] = omega arith
count_by-map_le p f lower (x ∷ xs) =
    grind (arith, lower x, count_by-map_le p f lower xs, sum_by-cons (λ y. cond (p y) 1 0) (f x) (map f xs), sum_by-cons (λ y. cond (p y) 1 0) x xs)

persons-without : (k : ℕ) (xs : List Passenger) → sum_by (λ p. p.party) (without (λ p. p.rider) k xs) ≤ sum_by (λ p. p.party) xs
unfolding without
persons-without k [] = omega arith
persons-without k (x ∷ xs) =
    grind (
      arith,
      nat_tests,
      persons-without k xs,
      sum_by-cons (λ (p : Passenger). p.party) x xs,
      sum_by-cons (λ (p : Passenger). p.party) x
          (without (λ p. p.rider) k xs),
    )

-- a rider of another status
module _ (riders : List BookRider) (k : ℕ) (status : Status) where
  abbrev changed : List BookRider
  changed = changed_at (λ r. r.id) k (with_status status) riders

  changed-here : (x : ℕ) (r : BookRider) → find_rider k riders ≡ Some r → seated x k changed ≡ seat_in x (with_status status r)
  changed-here x r e = ap (option_and_then (seat_in x)) (look_up-changed_here (λ (r : BookRider). r.id) k (with_status status) (λ r. refl) riders ∙
      ap (option_map (with_status status)) e)

  changed-there : (x j : ℕ) → (k ≡ j → ⊥) → seated x j changed ≡ seated x j riders
  changed-there x j ne = ap (option_and_then (seat_in x)) (look_up-changed_there (λ (r : BookRider). r.id) k j (with_status status) (λ r. refl) riders ne)

  changed-pool : is_active status ≡ false → pool_count changed ≤ pool_count riders
  unfolding changed_at
  changed-pool off = count_by-map_le (λ r. is_active r.status) (λ r. cond (eqb r.id k) (with_status status r) r) (λ r e. grind (arith, nat_tests)) riders

-- a change of a vehicle
module _ (vehicles : List Vehicle) (x : ℕ) (f : Vehicle → Vehicle) (keeps : (v : Vehicle) → (f v).id ≡ v.id) where
  abbrev moved : List Vehicle
  moved = changed_at (λ v. v.id) x f vehicles

  moved-here : (k : ℕ) (v : Vehicle) → find_vehicle x vehicles ≡ Some v → held x k moved ≡ find_passenger k (f v).aboard.items
  moved-here k v e = ap (option_and_then (λ (u : Vehicle). find_passenger k u.aboard.items))
      (look_up-changed_here (λ (v : Vehicle). v.id) x f keeps vehicles ∙ ap (option_map f) e)

  moved-there : (y k : ℕ) → (x ≡ y → ⊥) → held y k moved ≡ held y k vehicles
  moved-there y k ne = ap (option_and_then (λ (u : Vehicle). find_passenger k u.aboard.items))
      (look_up-changed_there (λ (v : Vehicle). v.id) x y f keeps vehicles ne)

abbrev HasEachOnce : Vehicle → Type 0
HasEachOnce v = KeysDiffer (λ p. p.rider) v.aboard.items

module _ (riders : List BookRider) (vehicles : List Vehicle) (kept : AreConsistent riders vehicles) where
  differ : KeysDiffer (λ v. v.id) vehicles
  differ = KeysDiffer-from_rise (λ (v : Vehicle). v.id) vehicles kept.vehicles_rise

  held-is : (x k : ℕ) (v : Vehicle) → find_vehicle x vehicles ≡ Some v → find_passenger k v.aboard.items ≡ seated x k riders
  held-is x k v at = sym (ap (option_and_then (λ (u : Vehicle). find_passenger k u.aboard.items)) at) ∙ kept.aboard x k

  -- a change of every rider that keeps ids and seats and lets nobody into the pool
  mapped : (f : BookRider → BookRider) → ((r : BookRider) → (f r).id ≡ r.id) → ((r : BookRider) → is_active (f r).status ≡ true → is_active r.status ≡ true) →
      ((r : BookRider) (x : ℕ) → seat_in x (f r) ≡ seat_in x r) → AreConsistent (map f riders) vehicles
  mapped f keeps lower seats = search (rules, length-map, count_by-map_le, KeysDiffer-map, look_up-map)

  -- a rider leaves the pool or a vehicle, and one vehicle changes
  restatus : (k : ℕ) (status : Status) → is_active status ≡ false → (after : List Vehicle) → length after ≡ length vehicles → KeysRise (λ v. v.id) after →
      All HasSeats after → All HasEachOnce after → ((x j : ℕ) → held x j after ≡ seated x j (changed_at (λ r. r.id) k (with_status status) riders)) →
      AreConsistent (changed_at (λ r. r.id) k (with_status status) riders) after
  restatus k status off after long rise seats once aboard = search (rules, length-changed_at, changed-pool, KeysDiffer-changed_at)

  given_up : (k : ℕ) (r : BookRider) → find_rider k riders ≡ Some r → is_active r.status ≡ true →
      AreConsistent (changed_at (λ r. r.id) k (with_status GivenUp) riders) vehicles
  given_up k r found on = restatus k GivenUp refl vehicles refl kept.vehicles_rise kept.seats kept.passengers (λ x j. kept.aboard x j ∙ same x j)
    where
      same : (x j : ℕ) → seated x j riders ≡ seated x j (changed riders k GivenUp)
      same x =
          at_each (λ i. seated x i riders ≡ seated x i (changed riders k GivenUp)) k
          (ap (option_and_then (seat_in x)) found ∙ seatless r x on ∙ sym (changed-here riders k GivenUp x r found))
          (λ j ne. sym (changed-there riders k GivenUp x j ne))

  placed_at : (x node time : ℕ) → AreConsistent riders (changed_at (λ v. v.id) x (stands_at node time) vehicles)
  placed_at x node time = record {
    vehicle_count = omega (arith, kept.vehicle_count, length-changed_at (λ (v : Vehicle). v.id) x (stands_at node time) vehicles);
    rider_count = kept.rider_count;
    pool = kept.pool;
    riders_differ = kept.riders_differ;
    vehicles_rise = KeysRise-changed_at (λ (v : Vehicle). v.id) x (stands_at node time) (λ v. refl) vehicles kept.vehicles_rise;
    seats = All-changed_at (λ (v : Vehicle). v.id) HasSeats x (stands_at node time) vehicles differ kept.seats
        (λ v found has. record { some = has.some; most = has.most; enough = has.enough });
    passengers = All-changed_at (λ (v : Vehicle). v.id) HasEachOnce x (stands_at node time) vehicles differ kept.passengers (λ v found has. has);
    aboard = λ y k. same y k ∙ kept.aboard y k;
  }
    where
      by : (k : ℕ) (o : Option Vehicle) → option_and_then (λ v. find_passenger k v.aboard.items) (option_map (stands_at node time) o) ≡ option_and_then
          (λ v. find_passenger k v.aboard.items) o
      by k None = refl
      by k (Some v) = refl

      same : (y k : ℕ) → held y k (moved vehicles x (stands_at node time) (λ v. refl)) ≡ held y k vehicles
      same y k =
          at_each (λ j. held j k (moved vehicles x (stands_at node time) (λ v. refl)) ≡ held j k vehicles) x
          (ap (option_and_then (λ (v : Vehicle). find_passenger k v.aboard.items)) (look_up-changed_here (λ (v : Vehicle). v.id) x (stands_at node time)
          (λ v. refl) vehicles) ∙ by k (find_vehicle x vehicles))
          (λ j ne. moved-there vehicles x (stands_at node time) (λ v. refl) j k ne) y

  submitted : (r : BookRider) → r.status ≡ Waiting → find_rider r.id riders ≡ None → pool_count riders < 1000 → length riders < 100000 →
      AreConsistent (riders ++ r ∷ []) vehicles
  submitted r waits new few below = search (rules, length-append, sum_by_push, KeysDiffer-push, at_each, look_up-push_here, seatless, look_up-push_there)

  module _ (x : ℕ) (v : Vehicle) (r : BookRider) (time : ℕ) (at : find_vehicle x vehicles ≡ Some v) (found : find_rider r.id riders ≡ Some r) where
    -- a rider gets into a vehicle, or out of it: nobody else's seat changes
    seat_changes : (f : Vehicle → Vehicle) (keeps : (u : Vehicle) → (f u).id ≡ u.id) (status : Status) → is_active status ≡ false →
        All HasSeats (changed_at (λ v. v.id) x f vehicles) → All HasEachOnce (changed_at (λ v. v.id) x f vehicles)
        → find_passenger r.id (f v).aboard.items ≡ seat_in x (with_status status r) → ((k : ℕ) → (r.id ≡ k → ⊥) →
        find_passenger k (f v).aboard.items ≡ find_passenger k v.aboard.items)
        → ((y : ℕ) → (x ≡ y → ⊥) → seat_in y r ≡ seat_in y (with_status status r)) → AreConsistent (changed_at (λ r. r.id) r.id (with_status status) riders)
        (changed_at (λ v. v.id) x f vehicles)
    seat_changes f keeps status off seats once own rest away =
        restatus r.id status off (moved vehicles x f keeps) (length-changed_at (λ (v : Vehicle). v.id) x f vehicles)
        (KeysRise-changed_at (λ (v : Vehicle). v.id) x f keeps vehicles kept.vehicles_rise) seats once (λ y k.
        at_each (λ y. held y k (moved vehicles x f keeps) ≡ seated y k (changed riders r.id status)) x (here k) (λ y ne. there y k ne) y)
      where
        here : (k : ℕ) → held x k (moved vehicles x f keeps) ≡ seated x k (changed riders r.id status)
        here =
            at_each (λ k. held x k (moved vehicles x f keeps) ≡ seated x k (changed riders r.id status)) r.id
            (moved-here vehicles x f keeps r.id v at ∙ own ∙ sym (changed-here riders r.id status x r found))
            (λ k ne. moved-here vehicles x f keeps k v at ∙ rest k ne ∙ held-is x k v at ∙ sym (changed-there riders r.id status x k ne))

        there : (y k : ℕ) → (x ≡ y → ⊥) → held y k (moved vehicles x f keeps) ≡ seated y k (changed riders r.id status)
        there y k ne =
            moved-there vehicles x f keeps y k ne ∙ kept.aboard y k
            ∙ at_each (λ k. seated y k riders ≡ seated y k (changed riders r.id status)) r.id
            (ap (option_and_then (seat_in y)) found ∙ away y ne ∙ sym (changed-here riders r.id status y r found))
            (λ k other. sym (changed-there riders r.id status y k other)) k

    picked : is_active r.status ≡ true → persons_aboard v + r.party ≤ v.seats → AreConsistent (changed_at (λ r. r.id) r.id (with_status (Aboard x)) riders)
        (changed_at (λ v. v.id) x (takes_in r time) vehicles)
    picked on fit =
        seat_changes (takes_in r time) (λ v. refl) (Aboard x) refl
        (All-changed_at (λ (v : Vehicle). v.id) HasSeats x (takes_in r time) vehicles differ kept.seats (λ u here has.
        record {
          some = has.some;
          most = has.most;
          enough = omega (arith, fits u here, sum_by_push (λ (p : Passenger). p.party) u.aboard.items (passenger_of r));
        }))
        (All-changed_at (λ (v : Vehicle). v.id) HasEachOnce x (takes_in r time) vehicles differ kept.passengers (λ u here has.
        KeysDiffer-push (λ (p : Passenger). p.rider) (passenger_of r) u.aboard.items has (absent u here)))
        (look_up-push_here (λ (p : Passenger). p.rider) r.id (passenger_of r) v.aboard.items refl (absent v at) ∙
        sym (ap (λ b. cond b (Some (passenger_of r)) None) (eq-eqb x x refl)))
        (λ k ne. look_up-push_there (λ (p : Passenger). p.rider) k (passenger_of r) v.aboard.items ne)
        (λ y ne. seatless r y on ∙ sym (seated_elsewhere (with_status (Aboard x) r) y x refl ne))
      where
        fits : (u : Vehicle) → find_vehicle x vehicles ≡ Some u → persons_aboard u + r.party ≤ u.seats
        fits u here = let is : v ≡ u = cc in subst (λ w. persons_aboard w + r.party ≤ w.seats) is fit

        absent : (u : Vehicle) → find_vehicle x vehicles ≡ Some u → find_passenger r.id u.aboard.items ≡ None
        absent u here = held-is x r.id u here ∙ ap (option_and_then (seat_in x)) found ∙ seatless r x on

    dropped : vehicle_of r.status ≡ Some x → AreConsistent (changed_at (λ r. r.id) r.id (with_status Delivered) riders)
        (changed_at (λ v. v.id) x (lets_out r time) vehicles)
    dropped in' =
        seat_changes (lets_out r time) (λ v. refl) Delivered refl
        (All-changed_at (λ (v : Vehicle). v.id) HasSeats x (lets_out r time) vehicles differ kept.seats (λ u here has.
        record { some = has.some; most = has.most; enough = omega (arith, has.enough, persons-without r.id u.aboard.items) }))
        (All-changed_at (λ (v : Vehicle). v.id) HasEachOnce x (lets_out r time) vehicles differ kept.passengers (λ u here has.
        KeysDiffer-without (λ (p : Passenger). p.rider) r.id u.aboard.items has))
        (look_up-without_here (λ (p : Passenger). p.rider) r.id v.aboard.items)
        (λ k ne. look_up-without_there (λ (p : Passenger). p.rider) r.id k v.aboard.items ne)
        (λ y ne. seated_elsewhere r y x in' ne)

  expired : (wait now : ℕ) → AreConsistent (map (after_seal wait now) riders) vehicles
  expired wait now = mapped (after_seal wait now) (after_seal-id wait now) (after_seal-active wait now) (λ r x. grind (arith, nat_tests, seatless r x))

  planned : (batch : List Rider) (ps : List Pick) → AreConsistent (map (after_plan batch ps) riders) vehicles
  planned batch ps =
      mapped (after_plan batch ps) (after_plan-id batch ps) (λ r e. sym (after_plan-active batch ps r) ∙ e)
      (λ r x. grind (arith, seatless r x, seatless (after_plan batch ps r) x, after_plan-active batch ps r))

  answered : (batch : List Rider) (a : Answer) → AreConsistent (after_answer batch a riders) vehicles
  unfolding after_answer
  answered batch Overflow = kept
  answered batch (Planned plan) = planned batch (picks plan.chosen)

submit-consistent : (nodes : List ℕ) (s : State) (r : BookRider) → r.status ≡ Waiting → IsConsistent s → IsConsistent (submit_step nodes s r).0
unfolding submit_step
submit-consistent nodes s r waits kept =
    answer-keeps IsConsistent s (submit_refusal nodes s r) Accepted (record s { riders = s.riders ++ r ∷ [] }) kept
    (λ none. let fits = submit-fits nodes s r none in submitted s.riders s.vehicles kept r waits fits.0 fits.1 fits.2)

cancel-consistent : (s : State) (rider : ℕ) → IsConsistent s → IsConsistent (cancel_step s rider).0
unfolding cancel_step
cancel-consistent s rider kept = answer-keeps IsConsistent s _ Cancelled (rider_becomes s rider GivenUp) kept (λ none. by (find_rider rider s.riders) refl none)
  where
    by : (o : Option BookRider) → find_rider rider s.riders ≡ o → first_of (unknown_rider o ∷ is_aboard o ∷ has_ended o ∷ []) ≡ None →
        IsConsistent (rider_becomes s rider GivenUp)
    by None e none = let refused = (first_of-none _ _ none).0 in absurd cc
    by (Some r) e none =
        let a = first_of-none _ _ (first_of-none _ _ none).1 in
        let b = first_of-none _ _ a.1 in
        given_up s.riders s.vehicles kept rider r e (active_left r.status a.0 b.0)

report-consistent : (nodes : List ℕ) (s : State) (vehicle node time : ℕ) → IsConsistent s → IsConsistent (report_step nodes s vehicle node time).0
unfolding report_step
report-consistent nodes s vehicle node time kept =
    answer-keeps IsConsistent s _ Placed (vehicle_becomes s vehicle (stands_at node time)) kept (λ none. placed_at s.riders s.vehicles kept vehicle node time)

-- who gets in, and who gets out, where nothing is refused
pub record GetsIn (s : State) (vehicle rider : ℕ) (v : Vehicle) (r : BookRider) : Type 0 where
  pub at : find_vehicle vehicle s.vehicles ≡ Some v
  pub found : find_rider r.id s.riders ≡ Some r
  pub active : is_active r.status ≡ true
  pub fits : persons_aboard v + r.party ≤ v.seats

pub getting_in : (s : State) (vehicle rider time : ℕ) (v : Vehicle) (r : BookRider) → find_vehicle vehicle s.vehicles ≡ Some v →
    find_rider rider s.riders ≡ Some r
    → first_of (unknown_vehicle (Some v) ∷ unknown_rider (Some r) ∷ is_aboard (Some r) ∷ has_ended (Some r) ∷ not_promised (Some r) vehicle ∷ time_back (Some v)
    time ∷ vehicle_full (Some v) (Some r) ∷ []) ≡ None → GetsIn s vehicle rider v r
unfolding first_of
getting_in s vehicle rider time v r at found none = search (rules, look_up-key)

pickup-consistent : (s : State) (vehicle rider time : ℕ) → IsConsistent s → IsConsistent (pickup_step s vehicle rider time).0
unfolding pickup_step
pickup-consistent s vehicle rider time kept =
    answer-keeps IsConsistent s _ Picked (picked_up s (find_rider rider s.riders) vehicle time) kept
    (λ none. by (find_vehicle vehicle s.vehicles) (find_rider rider s.riders) refl refl none)
  where
    by : (o : Option Vehicle) (p : Option BookRider) → find_vehicle vehicle s.vehicles ≡ o → find_rider rider s.riders ≡ p
        → first_of (unknown_vehicle o ∷ unknown_rider p ∷ is_aboard p ∷ has_ended p ∷ not_promised p vehicle ∷ time_back o time ∷ vehicle_full o p ∷ []) ≡ None
        → IsConsistent (picked_up s p vehicle time)
    by o None e f none = kept
    by None (Some r) e f none = let refused = (first_of-none _ _ none).0 in absurd cc
    by (Some v) (Some r) e f none =
        let gets = getting_in s vehicle rider time v r e f none in
        picked s.riders s.vehicles kept vehicle v r time gets.at gets.found gets.active gets.fits

dropoff-consistent : (s : State) (vehicle rider time : ℕ) → IsConsistent s → IsConsistent (dropoff_step s vehicle rider time).0
unfolding dropoff_step
dropoff-consistent s vehicle rider time kept =
    answer-keeps IsConsistent s _ Dropped (dropped_off s (find_rider rider s.riders) vehicle time) kept
    (λ none. by (find_vehicle vehicle s.vehicles) (find_rider rider s.riders) refl refl none)
  where
    by : (o : Option Vehicle) (p : Option BookRider) → find_vehicle vehicle s.vehicles ≡ o → find_rider rider s.riders ≡ p
        → first_of (unknown_vehicle o ∷ unknown_rider p ∷ not_aboard p vehicle ∷ time_back o time ∷ []) ≡ None → IsConsistent (dropped_off s p vehicle time)
    by o None e f none = kept
    by None (Some r) e f none = let refused = (first_of-none _ _ none).0 in absurd cc
    by (Some v) (Some r) e f none =
        let a = first_of-none _ _ (first_of-none _ _ (first_of-none _ _ none).1).1 in
        dropped s.riders s.vehicles kept vehicle v r time e
        (subst (λ k. find_rider k s.riders ≡ Some r) (sym (look_up-key (λ (r : BookRider). r.id) rider s.riders r f)) f)
        (carried vehicle r.status a.0)

seal-consistent : (wait : ℕ) (s : State) (now : ℕ) → IsConsistent s → IsConsistent (seal_step wait s now).0
unfolding seal_step sealed_state
seal-consistent wait s now kept =
    answer-keeps IsConsistent s (seal_refusal s now) (Sealed (one_more s.batches)) (sealed_state wait s now) kept
    (λ none. expired s.riders s.vehicles kept wait now)

-- a close that isn't refused is of a sealed batch
pub close-keeps : (P : State → Type 0) (s : State) (batch : ℕ) (a : Answer) → P s → ((b : Batch) → s.sealed ≡ Some b →
    P (record s { riders = after_answer b.riders a s.riders; sealed = None })) → P (close_step s batch a).0
unfolding close_step
close-keeps P s batch a old new = answer-keeps P s (first_of (not_this_batch s.sealed batch ∷ [])) Closed (closed_state s a) old
    (λ none. by s.sealed refl (first_of-none _ _ none).0)
  where
    by : (o : Option Batch) → s.sealed ≡ o → not_this_batch s.sealed batch ≡ None → P (closed_state s a)
    by None e none = let refused = ap (λ o. not_this_batch o batch) (sym e) ∙ none in absurd cc
    by (Some b) e none = subst P (sym (closed-some s b a e)) (new b e)

table-consistent : (nodes : List ℕ) (wait : ℕ) (s : State) (command : Command) → IsConsistent s → IsConsistent (table_step nodes wait s command).0
unfolding table_step
table-consistent nodes wait s (Submit rider origin destination time party) kept = search (rules, submit-consistent)
table-consistent nodes wait s (Cancel rider) kept = cancel-consistent s rider kept
table-consistent nodes wait s (Report vehicle node time) kept = report-consistent nodes s vehicle node time kept
table-consistent nodes wait s (Pickup vehicle rider time) kept = pickup-consistent s vehicle rider time kept
table-consistent nodes wait s (Dropoff vehicle rider time) kept = dropoff-consistent s vehicle rider time kept
table-consistent nodes wait s (Seal now) kept = seal-consistent wait s now kept
table-consistent nodes wait s (Close batch outcome) kept = close-keeps IsConsistent s batch outcome.answer kept
    (λ b e. answered s.riders s.vehicles kept b.riders outcome.answer)

pub step-consistent : (nodes : List ℕ) (wait : ℕ) (s : State) (command : Command) → IsConsistent s → IsConsistent (step nodes wait s command).0
step-consistent nodes wait s command kept = subst (λ p. IsConsistent p.0) (sym (step-table nodes wait s command)) (table-consistent nodes wait s command kept)
