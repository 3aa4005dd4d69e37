-- How the book answers what is entered on a driven day.
use Rattle.std.proofs.Common.{◌≡◌, ◌⊎◌, ℕ, ◌+◌, ◌≤◌, true, List, [], ◌∷◌, ◌++◌, Option, Some, None, refl, ap, inl, inr}
use Rattle.route_drive.proofs.Common.{
  Batch,
  persons_aboard,
  Promise,
  Vehicle,
  one_more,
  after_answer,
  closed_state,
  first_of,
  duplicate_rider,
  batch_open,
  clock_back,
  sealed_state,
  find_rider,
  find_vehicle,
  step,
  rider_becomes,
  vehicle_becomes,
  stands_at,
  takes_in,
  lets_out,
  answer,
  submit_step,
  submit_refusal,
  report_step,
  pickup_step,
  dropoff_step,
  seal_step,
  close_step,
  table_step,
  by-table,
  Submit,
  Report,
  Pickup,
  Dropoff,
  Seal,
  Close,
  BookRefusal,
  Accepted,
  Placed,
  Picked,
  Dropped,
  Sealed,
  Closed,
  BookRider,
  Waiting,
  Promised,
  Aboard,
  Delivered,
  State,
  has_node,
  Outcome,
  eq-eqb,
  le-ltb,
  le-leb,
}
use Rattle.request_book.proofs.lemmas.register.StepLemmas.{first_of-none}

-- nothing speaks against a seal
seal_free : (sealed : Option Batch) (last : Option ℕ) (now : ℕ) → sealed ≡ None → ((l : ℕ) → last ≡ Some l → l ≤ now) →
    first_of (batch_open sealed ∷ clock_back last now ∷ []) ≡ None
unfolding first_of
seal_free sealed None now closed later = rw closed refl
seal_free sealed (Some last) now closed later = rw (closed, le-ltb now last (later last refl)) refl

module _ (nodes : List ℕ) (wait : ℕ) (s : State) where
  pub pickup_is : (vehicle rider time : ℕ) (v : Vehicle) (r : BookRider) (promise : Promise) → find_vehicle vehicle s.vehicles ≡ Some v →
      find_rider rider s.riders ≡ Some r
      → r.status ≡ Promised promise → promise.vehicle ≡ vehicle → v.time ≤ time → persons_aboard v + r.party ≤ v.seats
      → step nodes wait s (Pickup vehicle rider time) ≡ (vehicle_becomes (rider_becomes s r.id (Aboard vehicle)) vehicle (takes_in r time), Picked)
  unfolding table_step pickup_step first_of
  pickup_is vehicle rider time v r promise at found status own back fits = by-table (λ p. p ≡
      (vehicle_becomes (rider_becomes s r.id (Aboard vehicle)) vehicle (takes_in r time), Picked)) nodes wait s (Pickup vehicle rider time)
      (rw (at, found, status, eq-eqb promise.vehicle vehicle own, le-ltb time v.time back, le-leb (persons_aboard v + r.party) v.seats fits) refl)

  pub dropoff_is : (vehicle rider time : ℕ) (v : Vehicle) (r : BookRider) → find_vehicle vehicle s.vehicles ≡ Some v → find_rider rider s.riders ≡ Some r
      → r.status ≡ Aboard vehicle → v.time ≤ time
      → step nodes wait s (Dropoff vehicle rider time) ≡ (vehicle_becomes (rider_becomes s r.id Delivered) vehicle (lets_out r time), Dropped)
  unfolding table_step dropoff_step first_of
  dropoff_is vehicle rider time v r at found status back =
      by-table (λ p. p ≡ (vehicle_becomes (rider_becomes s r.id Delivered) vehicle (lets_out r time), Dropped)) nodes wait s (Dropoff vehicle rider time)
      (rw (at, found, status, eq-eqb vehicle vehicle refl, le-ltb time v.time back) refl)

  pub report_is : (vehicle node time : ℕ) (v : Vehicle) → find_vehicle vehicle s.vehicles ≡ Some v → has_node nodes node ≡ true → v.time ≤ time
      → step nodes wait s (Report vehicle node time) ≡ (vehicle_becomes s vehicle (stands_at node time), Placed)
  unfolding table_step report_step first_of
  report_is vehicle node time v at named back = by-table (λ p. p ≡ (vehicle_becomes s vehicle (stands_at node time), Placed)) nodes wait s
      (Report vehicle node time)
      (rw (at, named, le-ltb time v.time back) refl)

  -- a request changes nothing, or its rider is new and waits
  pub submit_is : (rider origin destination time party : ℕ)
      → ((step nodes wait s (Submit rider origin destination time party)).0 ≡ s)
      ⊎ ((find_rider rider s.riders ≡ None)
      × ((step nodes wait s (Submit rider origin destination time party)).0 ≡ record s {
        riders =
            s.riders ++ (record { id = rider; origin = origin; destination = destination; time = time; party = party; status = Waiting }) ∷ [];
      }))
  unfolding table_step submit_step
  submit_is rider origin destination time party =
      by-table (λ p. (p.0 ≡ s) ⊎ ((find_rider rider s.riders ≡ None) ×
      (p.0 ≡ record s {
        riders = s.riders ++ (record { id = rider; origin = origin; destination = destination; time = time; party = party; status = Waiting }) ∷
            [];
      }))) nodes wait s (Submit rider origin destination time party)
      (by (submit_refusal nodes s r) refl)
    where
      r : BookRider
      r = record { id = rider; origin = origin; destination = destination; time = time; party = party; status = Waiting }

      fresh : (o : Option BookRider) → duplicate_rider o ≡ None → o ≡ None
      fresh None e = refl
      fresh (Some x) e = absurd cc

      by : (o : Option BookRefusal) → submit_refusal nodes s r ≡ o
          → ((answer s o Accepted (record s { riders = s.riders ++ r ∷ [] })).0 ≡ s) ⊎ ((find_rider rider s.riders ≡ None) ×
          ((answer s o Accepted (record s { riders = s.riders ++ r ∷ [] })).0 ≡ record s { riders = s.riders ++ r ∷ [] }))
      by (Some refusal) e = inl refl
      by None e = inr (fresh (find_rider rider s.riders) (first_of-none _ _ e).0, refl)

  -- a seal where no batch is open, not before the last
  pub seal_is : (now : ℕ) → s.sealed ≡ None → ((last : ℕ) → s.last_seal ≡ Some last → last ≤ now) →
      step nodes wait s (Seal now) ≡ (sealed_state wait s now, Sealed (one_more s.batches))
  unfolding table_step seal_step
  seal_is now closed later = by-table (λ p. p ≡ (sealed_state wait s now, Sealed (one_more s.batches))) nodes wait s (Seal now)
      (ap (λ o. answer s o (Sealed (one_more s.batches)) (sealed_state wait s now)) (seal_free s.sealed s.last_seal now closed later))

  -- the close of the sealed batch
  pub close_is : (b : Batch) (outcome : Outcome) → s.sealed ≡ Some b
      → step nodes wait s (Close b.number outcome) ≡ (record s { riders = after_answer b.riders outcome.answer s.riders; sealed = None }, Closed)
  unfolding table_step close_step closed_state first_of
  close_is b outcome sealed = by-table (λ p. p ≡ (record s { riders = after_answer b.riders outcome.answer s.riders; sealed = None }, Closed)) nodes wait s
      (Close b.number outcome)
      (rw (sealed, eq-eqb b.number b.number refl) refl)
