-- How the steps go on from their refusals.
use Rattle.std.proofs.Common.{◌≡◌, ℕ, ◌<◌, true, List, [], ◌∷◌, ◌++◌, length, get_or, Option, Some, None, refl, sym, ap, ◌∙◌, arith}
use Rattle.request_book.proofs.Common.{
  nat_tests,
  Vehicle,
  Batch,
  Answer,
  after_answer,
  closed_state,
  sealed_state,
  one_more,
  BookRefusal,
  Refused,
  Accepted,
  Cancelled,
  Placed,
  Picked,
  Dropped,
  Sealed,
  Closed,
  UnknownRider,
  UnknownVehicle,
  BookRider,
  Status,
  Aboard,
  Delivered,
  State,
  is_active,
  first_of,
  aboard_refusal,
  ended_refusal,
  promise_refusal,
  seat_refusal,
  time_back,
  vehicle_full,
  unknown_node,
  not_this_batch,
  find_rider,
  find_vehicle,
  pool_count,
  rider_becomes,
  vehicle_becomes,
  stands_at,
  takes_in,
  lets_out,
  answer,
  submit_refusal,
  submit_step,
  cancel_step,
  report_step,
  pickup_step,
  dropoff_step,
  seal_refusal,
  seal_step,
  close_step,
}
use Rattle.request_book.specs.declared.values.rider.Status.TheVariants.{Cancelled as GivenUp}

-- where the first refusal of a list is none, none of them holds
pub first_of-none : (o : Option BookRefusal) (rest : List (Option BookRefusal)) → first_of (o ∷ rest) ≡ None → (o ≡ None) × (first_of rest ≡ None)
unfolding first_of
first_of-none None rest none = (refl, none)
first_of-none (Some r) rest none = absurd cc

pub first_of-alone : (o : Option BookRefusal) → first_of (o ∷ []) ≡ o
unfolding first_of
first_of-alone None = refl
first_of-alone (Some r) = refl

-- who is neither aboard nor ended is in the pool
pub active_left : (s : Status) → aboard_refusal s ≡ None → ended_refusal s ≡ None → is_active s ≡ true
active_left s a e = grind arith

pub fifth-none : (a b d e f : Option BookRefusal) → first_of (a ∷ b ∷ d ∷ e ∷ f ∷ []) ≡ None → f ≡ None
unfolding first_of
fifth-none a b d e f none = grind arith

-- a request that isn't refused is of a new rider, the pool isn't full, and neither is the book
pub submit-fits : (nodes : List ℕ) (s : State) (r : BookRider) → submit_refusal nodes s r ≡ None →
    (find_rider r.id s.riders ≡ None) × (pool_count s.riders < 1000) × (length s.riders < 100000)
unfolding first_of
submit-fits nodes s r none = (grind (arith, nat_tests), grind (arith, nat_tests), grind (arith, nat_tests))

pub submit-known : (nodes : List ℕ) (s : State) (r : BookRider) (o : Option BookRefusal) → o ≡ submit_refusal nodes s r →
    answer s o Accepted (record s { riders = s.riders ++ r ∷ [] }) ≡ submit_step nodes s r
unfolding submit_step
submit-known nodes s r o e = rw e refl

-- seals and closes
pub seal-known : (wait : ℕ) (s : State) (now : ℕ) (o : Option BookRefusal) → o ≡ seal_refusal s now →
    answer s o (Sealed (one_more s.batches)) (sealed_state wait s now) ≡ seal_step wait s now
unfolding seal_step
seal-known wait s now o e = rw e refl

pub close-known : (s : State) (batch : ℕ) (outcome : Answer) (o : Option BookRefusal) → o ≡ not_this_batch s.sealed batch →
    answer s o Closed (closed_state s outcome) ≡ close_step s batch outcome
unfolding close_step
close-known s batch outcome o e = ap (λ p. answer s p Closed (closed_state s outcome)) (e ∙ sym (first_of-alone (not_this_batch s.sealed batch)))

pub closed-some : (s : State) (b : Batch) (outcome : Answer) → s.sealed ≡ Some b → closed_state s outcome ≡ record s
    { riders = after_answer b.riders outcome s.riders; sealed = None }
unfolding closed_state
closed-some s b outcome e = rw e refl

-- what stands at a place is there
stands : {X : Type 0} (o : Option X) (xs : List X) (at : ℕ) → at < length xs → ((d : X) → o ≡ Some (get_or xs at d)) → (x : X) × (o ≡ Some x)
stands o [] at in' found = absurd (omega arith)
stands o (x ∷ xs) at in' found = (get_or (x ∷ xs) at x, found x)

module _ (s : State) where
  -- cancel
  pub cancel-unknown : (rider : ℕ) → find_rider rider s.riders ≡ None → (s, Refused UnknownRider) ≡ cancel_step s rider
  unfolding cancel_step first_of
  cancel-unknown rider none = rw none refl

  pub cancel-known : (rider : ℕ) (r : BookRider) (o a b : Option BookRefusal) → find_rider rider s.riders ≡ Some r → o ≡ first_of (a ∷ b ∷ []) →
      a ≡ aboard_refusal r.status → b ≡ ended_refusal r.status → answer s o Cancelled (rider_becomes s rider GivenUp) ≡ cancel_step s rider
  unfolding cancel_step first_of
  cancel-known rider r o a b found told is1 is2 = rw (found, told, is1, is2) refl

  -- report
  pub report-unknown : (nodes : List ℕ) (vehicle node time : ℕ) → find_vehicle vehicle s.vehicles ≡ None →
      (s, Refused UnknownVehicle) ≡ report_step nodes s vehicle node time
  unfolding report_step first_of
  report-unknown nodes vehicle node time none = rw none refl

  pub report-known : (nodes : List ℕ) (vehicle node time : ℕ) (v : Vehicle) (o a b : Option BookRefusal) → find_vehicle vehicle s.vehicles ≡ Some v →
      o ≡ first_of (a ∷ b ∷ []) → a ≡ unknown_node nodes node → b ≡ time_back (Some v) time →
      answer s o Placed (vehicle_becomes s vehicle (stands_at node time)) ≡ report_step nodes s vehicle node time
  unfolding report_step first_of
  report-known nodes vehicle node time v o a b found told is1 is2 = rw (found, told, is1, is2) refl

  -- pickup
  pub pickup-no_vehicle : (vehicle rider time : ℕ) → find_vehicle vehicle s.vehicles ≡ None → (s, Refused UnknownVehicle) ≡ pickup_step s vehicle rider time
  unfolding pickup_step first_of
  pickup-no_vehicle vehicle rider time none = rw none refl

  pub pickup-no_rider : (vehicle rider time : ℕ) (v : Vehicle) → find_vehicle vehicle s.vehicles ≡ Some v → find_rider rider s.riders ≡ None →
      (s, Refused UnknownRider) ≡ pickup_step s vehicle rider time
  unfolding pickup_step first_of
  pickup-no_rider vehicle rider time v found none = rw (found, none) refl

  pub pickup-known : (vehicle rider time : ℕ) (v : Vehicle) (r : BookRider) (o a b d e f : Option BookRefusal) → find_vehicle vehicle s.vehicles ≡ Some v →
      find_rider rider s.riders ≡ Some r → o ≡ first_of (a ∷ b ∷ d ∷ e ∷ f ∷ [])
      → a ≡ aboard_refusal r.status → b ≡ ended_refusal r.status → d ≡ promise_refusal vehicle r.status → e ≡ time_back (Some v) time →
      f ≡ vehicle_full (Some v) (Some r) → answer s o Picked (vehicle_becomes (rider_becomes s r.id (Aboard vehicle)) vehicle (takes_in r time)) ≡
      pickup_step s vehicle rider time
  unfolding pickup_step first_of
  pickup-known vehicle rider time v r o a b d e f found known told is1 is2 is3 is4 is5 = rw (found, known, told, is1, is2, is3, is4, is5) refl

  pub pickup-no_rider_at : (vehicle rider time at : ℕ) → at < length s.vehicles → ((d : Vehicle) →
      find_vehicle vehicle s.vehicles ≡ Some (get_or s.vehicles at d)) → find_rider rider s.riders ≡ None →
      (s, Refused UnknownRider) ≡ pickup_step s vehicle rider time
  pickup-no_rider_at vehicle rider time at in' found none = let there = stands (find_vehicle vehicle s.vehicles) s.vehicles at in' found in pickup-no_rider
      vehicle rider time there.0 there.1 none

  -- drop-off
  pub dropoff-no_vehicle : (vehicle rider time : ℕ) → find_vehicle vehicle s.vehicles ≡ None → (s, Refused UnknownVehicle) ≡ dropoff_step s vehicle rider time
  unfolding dropoff_step first_of
  dropoff-no_vehicle vehicle rider time none = rw none refl

  pub dropoff-no_rider : (vehicle rider time : ℕ) (v : Vehicle) → find_vehicle vehicle s.vehicles ≡ Some v → find_rider rider s.riders ≡ None →
      (s, Refused UnknownRider) ≡ dropoff_step s vehicle rider time
  unfolding dropoff_step first_of
  dropoff-no_rider vehicle rider time v found none = rw (found, none) refl

  pub dropoff-known : (vehicle rider time : ℕ) (v : Vehicle) (r : BookRider) (o a b : Option BookRefusal) → find_vehicle vehicle s.vehicles ≡ Some v →
      find_rider rider s.riders ≡ Some r → o ≡ first_of (a ∷ b ∷ []) → a ≡ seat_refusal vehicle r.status → b ≡ time_back (Some v) time →
      answer s o Dropped (vehicle_becomes (rider_becomes s r.id Delivered) vehicle (lets_out r time)) ≡ dropoff_step s vehicle rider time
  unfolding dropoff_step first_of
  dropoff-known vehicle rider time v r o a b found known told is1 is2 = rw (found, known, told, is1, is2) refl

  pub dropoff-no_rider_at : (vehicle rider time at : ℕ) → at < length s.vehicles → ((d : Vehicle) →
      find_vehicle vehicle s.vehicles ≡ Some (get_or s.vehicles at d)) → find_rider rider s.riders ≡ None →
      (s, Refused UnknownRider) ≡ dropoff_step s vehicle rider time
  dropoff-no_rider_at vehicle rider time at in' found none = let there = stands (find_vehicle vehicle s.vehicles) s.vehicles at in' found in dropoff-no_rider
      vehicle rider time there.0 there.1 none
