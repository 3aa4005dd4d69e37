use Rattle.std.proofs.lemmas.Bool.Decides.{nat_tests}
use Rattle.std.proofs.Common.{
  ◌≡◌,
  ℕ,
  zero,
  suc,
  ◌+◌,
  ◌-◌,
  ◌<◌,
  ◌≤◌,
  Bool,
  true,
  false,
  List,
  [],
  ◌∷◌,
  refl,
  sym,
  ◌∙◌,
  subst,
  arith,
  inl,
  inr,
  rules,
  length,
  get_or,
  ap,
  add-one,
}
use Rattle.stop_orders.proofs.Common.{
  cases_eq,
  never,
  IsTravelTime,
  Leg,
  Task,
  Stop,
  Pick,
  Drop,
  Alight,
  place_of,
  lateness,
  leg_at,
  visit_at,
  has,
  IsNextStop,
  sum_below,
  Label,
  task_riders,
  task_passengers,
  CanVisit,
  next_label,
  second_at,
  GoesOn,
  rest_delay,
  CanStill,
  late_at_once,
  RiderCan,
  rider_late,
  PassengerCan,
  passenger_late,
  least_ahead,
  get_or_default,
  no_leg,
}
use Rattle.stop_orders.proofs.lemmas.task.DoneLemmas.{has-with_same, has-with_other, Completes-front, IsAllDone-from_nil, sum_below-le}
use Rattle.stop_orders.proofs.lemmas.task.ClockLemmas.{AtLeastAsSoon}

sum_below-zero : (f : ℕ → ℕ) (n : ℕ) → ((k : ℕ) → k < n → f k ≤ 0) → sum_below f n ≤ 0
sum_below-zero f zero h = omega arith
sum_below-zero f (suc n) h = omega (arith, sum_below-zero f n (λ k b. h k (omega arith)), h n (omega arith))

-- where one term grows by x at most and no other grows, the sum does
sum_below-le_one : (f g : ℕ → ℕ) (n i x : ℕ) → i < n → ((k : ℕ) → k < n → (k ≡ i → ⊥) → f k ≤ g k) → f i ≤ g i + x → sum_below f n ≤ sum_below g n + x
sum_below-le_one f g zero i x b h one = absurd (omega arith)
sum_below-le_one f g (suc n) i x b h one = search (rules, cases_eq, sum_below-le, (sum_below-le_one f g n i x))

-- .. and where the stops of the rider that are done are the same
still_same : (tau : ℕ → ℕ → ℕ) (dwell : ℕ) (leg : Leg) (picked dropped picked' dropped' : Bool) (p f q g : ℕ) → picked' ≡ picked → dropped' ≡ dropped →
    AtLeastAsSoon tau p f q g → CanStill tau dwell leg picked' dropped' q g
    → CanStill tau dwell leg picked dropped p f × (late_at_once tau dwell leg picked dropped p f ≤ late_at_once tau dwell leg picked' dropped' q g)
still_same tau dwell leg picked dropped picked' dropped' p f q g e h soon can = search rules

-- before the pickup it is as after it
still_picked : (tau : ℕ → ℕ → ℕ) (dwell : ℕ) (leg : Leg) (picked dropped picked' dropped' : Bool) (p f : ℕ) → picked ≡ false → dropped ≡ false →
    picked' ≡ true → dropped' ≡ false
    → tau p leg.origin < never → f + tau p leg.origin ≤ leg.latest_pickup → CanStill tau dwell leg picked' dropped' leg.origin (f + tau p leg.origin + dwell)
    → CanStill tau dwell leg picked dropped p f × (late_at_once tau dwell leg picked dropped p f ≤ late_at_once tau dwell leg picked' dropped' leg.origin
    (f + tau p leg.origin + dwell))
still_picked tau dwell leg picked dropped picked' dropped' p f e h e' h' reach in_time can = search rules

-- the delay at the drop-off
still_dropped : (tau : ℕ → ℕ → ℕ) (dwell : ℕ) (leg : Leg) (picked dropped picked' dropped' : Bool) (p f q g : ℕ) → picked ≡ true → dropped ≡ false →
    dropped' ≡ true
    → tau p leg.destination < never → f + tau p leg.destination ≤ leg.latest_dropoff
    → CanStill tau dwell leg picked dropped p f × (late_at_once tau dwell leg picked dropped p f ≤ late_at_once tau dwell leg picked' dropped' q g +
    (f + tau p leg.destination - leg.ideal))
still_dropped tau dwell leg picked dropped picked' dropped' p f q g e h h' reach in_time = rw (e, h, h') ((reach, in_time), omega arith)

still_out : (tau : ℕ → ℕ → ℕ) (dwell : ℕ) (leg : Leg) (picked dropped : Bool) (p f : ℕ) → dropped ≡ true →
    CanStill tau dwell leg picked dropped p f × (late_at_once tau dwell leg picked dropped p f ≤ 0)
still_out tau dwell leg picked dropped p f h = rw h (tt, omega arith)

-- a leg that is read from a slice
pub leg_read : (items slice : List Leg) (i : ℕ) (leg : Leg) → slice ≡ items → leg ≡ get_or slice i leg → i < length items → leg ≡ leg_at items i
leg_read items slice i leg e read h = read ∙ ap (λ xs. get_or xs i leg) e ∙ get_or_default items i leg no_leg h

-- one rider or passenger more in the sum, or none can be served
module _ (tau : ℕ → ℕ → ℕ) (task : Task) (label : Label) (i : ℕ) (leg : Leg) (dropped : Bool) where
  pub rider_more : (picked : Bool) (delay late : ℕ) → leg ≡ leg_at task.riders.items i → picked ≡ has label.done i → dropped ≡ has label.done (6 + i) →
      late ≡ late_at_once tau task.dwell leg picked dropped label.place label.free
      → delay ≡ sum_below (rider_late tau task label) i → delay + late ≡ sum_below (rider_late tau task label) (i + 1)
  rider_more picked delay late e p d is so_far =
      let own : late ≡ rider_late tau task label i = is ∙ rw (e, p, d) refl in
      rw (add-one i) (omega (arith, own, so_far))

  pub rider_stuck : (picked : Bool) → leg ≡ leg_at task.riders.items i → picked ≡ has label.done i → dropped ≡ has label.done (6 + i) →
      (CanStill tau task.dwell leg picked dropped label.place label.free → ⊥)
      → RiderCan tau task label i → ⊥
  rider_stuck picked e p d never can = never (rw (e, p, d) can)

  pub passenger_more : (delay late riders : ℕ) → leg ≡ leg_at task.aboard.items i → dropped ≡ has label.done (12 + i) →
      late ≡ late_at_once tau task.dwell leg true dropped label.place label.free
      → delay ≡ riders + sum_below (passenger_late tau task label) i → delay + late ≡ riders + sum_below (passenger_late tau task label) (i + 1)
  passenger_more delay late riders e d is so_far =
      let own : late ≡ passenger_late tau task label i = is ∙ rw (e, d) refl in
      rw (add-one i) (omega (arith, own, so_far))

  pub passenger_stuck : leg ≡ leg_at task.aboard.items i → dropped ≡ has label.done (12 + i) →
      (CanStill tau task.dwell leg true dropped label.place label.free → ⊥) → PassengerCan tau task label i → ⊥
  passenger_stuck e d never can = never (rw (e, d) can)

-- everyone left can still be served, and no way on has less delay than the sum of those at once
pub record IsAhead (tau : ℕ → ℕ → ℕ) (task : Task) (label : Label) (rest : List Stop) : Type 0 where
  pub riders : (i : ℕ) → i < task_riders task → RiderCan tau task label i
  pub passengers : (j : ℕ) → j < task_passengers task → PassengerCan tau task label j
  pub least : least_ahead tau task label ≤ rest_delay tau task label rest

module _ (points : ℕ) (tau : ℕ → ℕ → ℕ) (t : IsTravelTime points tau) (task : Task) (few : task_riders task ≤ 6) where
  pub soon_next : (label : Label) (s : Stop) → tau label.place (place_of (visit_at task s)) < never →
      AtLeastAsSoon tau label.place label.free (next_label tau task label s).place (next_label tau task label s).free
  soon_next label s reach = search rules

  -- one stop earlier
  ahead_step : (label : Label) (s : Stop) → IsNextStop (task_riders task) (task_passengers task) label.done s → CanVisit tau task label s
      → ((i : ℕ) → i < task_riders task → RiderCan tau task (next_label tau task label s) i) →
      ((j : ℕ) → j < task_passengers task → PassengerCan tau task (next_label tau task label s) j)
      → ((i : ℕ) → i < task_riders task → RiderCan tau task label i) × ((j : ℕ) → j < task_passengers task → PassengerCan tau task label j)
      × (least_ahead tau task label ≤ least_ahead tau task (next_label tau task label s) + lateness (visit_at task s) (second_at tau task label s))
  ahead_step label (Pick k) next can riders passengers =
      let after = next_label tau task label (Pick k) in
      let soon = soon_next label (Pick k) can.0 in
      let rider : (i : ℕ) → i < task_riders task → RiderCan tau task label i × (rider_late tau task label i ≤ rider_late tau task after i) =
      λ i h. elim (cases_eq i k) [
        | inl e ↦ subst (λ n. RiderCan tau task label n × (rider_late tau task label n ≤ rider_late tau task after n)) (sym e)
            (still_picked tau task.dwell (leg_at task.riders.items k) (has label.done k) (has label.done (6 + k)) (has after.done k) (has after.done (6 + k))
            label.place label.free next.1 next.2
            (has-with_same label.done k) (has-with_other label.done k (6 + k) (λ q. omega arith) ∙ next.2) can.0 can.1 (riders k next.0))
        | inr ne ↦ still_same tau task.dwell (leg_at task.riders.items i) (has label.done i) (has label.done (6 + i)) (has after.done i)
            (has after.done (6 + i)) label.place label.free after.place after.free
            (has-with_other label.done k i ne) (has-with_other label.done k (6 + i) (λ q. omega arith)) soon (riders i h)
      ] in
      let passenger : (j : ℕ) → j < task_passengers task → PassengerCan tau task label j × (passenger_late tau task label j ≤ passenger_late tau task after j) =
      λ j h.
      still_same tau task.dwell (leg_at task.aboard.items j) true (has label.done (12 + j)) true (has after.done (12 + j)) label.place label.free after.place
      after.free
      refl (has-with_other label.done k (12 + j) (λ q. omega arith)) soon (passengers j h) in
      let first = sum_below-le (rider_late tau task after) (rider_late tau task label) (task_riders task) (λ i h. (rider i h).1) in
      let second = sum_below-le (passenger_late tau task after) (passenger_late tau task label) (task_passengers task) (λ j h. (passenger j h).1) in
      ((λ i h. (rider i h).0), (λ j h. (passenger j h).0), omega (arith, first, second))
  ahead_step label (Drop k) next can riders passengers =
      let after = next_label tau task label (Drop k) in
      let soon = soon_next label (Drop k) can.0 in
      let late = lateness (visit_at task (Drop k)) (second_at tau task label (Drop k)) in
      let own : RiderCan tau task label k × (rider_late tau task label k ≤ rider_late tau task after k + late) =
      still_dropped tau task.dwell (leg_at task.riders.items k) (has label.done k) (has label.done (6 + k)) (has after.done k) (has after.done (6 + k))
      label.place label.free after.place after.free next.1 next.2
      (has-with_same label.done (6 + k)) can.0 can.1 in
      let other : (i : ℕ) → i < task_riders task → (i ≡ k → ⊥) → RiderCan tau task label i × (rider_late tau task label i ≤ rider_late tau task after i) =
      λ i h ne.
      still_same tau task.dwell (leg_at task.riders.items i) (has label.done i) (has label.done (6 + i)) (has after.done i) (has after.done (6 + i)) label.place
      label.free after.place after.free
      (has-with_other label.done (6 + k) i (λ q. omega arith)) (has-with_other label.done (6 + k) (6 + i) (λ q. ne (omega arith))) soon (riders i h) in
      let passenger : (j : ℕ) → j < task_passengers task → PassengerCan tau task label j × (passenger_late tau task label j ≤ passenger_late tau task after j) =
      λ j h.
      still_same tau task.dwell (leg_at task.aboard.items j) true (has label.done (12 + j)) true (has after.done (12 + j)) label.place label.free after.place
      after.free
      refl (has-with_other label.done (6 + k) (12 + j) (λ q. omega arith)) soon (passengers j h) in
      let first = sum_below-le_one (rider_late tau task label) (rider_late tau task after) (task_riders task) k late next.0 (λ i h ne. (other i h ne).1)
      own.1 in
      let second = sum_below-le (passenger_late tau task after) (passenger_late tau task label) (task_passengers task) (λ j h. (passenger j h).1) in (
        (λ i h. elim (cases_eq i k) [ inl e ↦ subst (λ n. RiderCan tau task label n) (sym e) own.0 | inr ne ↦ (other i h ne).0 ]),
        (λ j h. (passenger j h).0),
        omega (arith, first, second),
      )
  ahead_step label (Alight k) next can riders passengers =
      let after = next_label tau task label (Alight k) in
      let soon = soon_next label (Alight k) can.0 in
      let late = lateness (visit_at task (Alight k)) (second_at tau task label (Alight k)) in
      let own : PassengerCan tau task label k × (passenger_late tau task label k ≤ passenger_late tau task after k + late) =
      still_dropped tau task.dwell (leg_at task.aboard.items k) true (has label.done (12 + k)) true (has after.done (12 + k)) label.place label.free after.place
      after.free refl next.1
      (has-with_same label.done (12 + k)) can.0 can.1 in
      let other : (j : ℕ) → j < task_passengers task → (j ≡ k → ⊥) → PassengerCan tau task label j ×
      (passenger_late tau task label j ≤ passenger_late tau task after j) = λ j h ne.
      still_same tau task.dwell (leg_at task.aboard.items j) true (has label.done (12 + j)) true (has after.done (12 + j)) label.place label.free after.place
      after.free
      refl (has-with_other label.done (12 + k) (12 + j) (λ q. ne (omega arith))) soon (passengers j h) in
      let rider : (i : ℕ) → i < task_riders task → RiderCan tau task label i × (rider_late tau task label i ≤ rider_late tau task after i) = λ i h.
      still_same tau task.dwell (leg_at task.riders.items i) (has label.done i) (has label.done (6 + i)) (has after.done i) (has after.done (6 + i)) label.place
      label.free after.place after.free
      (has-with_other label.done (12 + k) i (λ q. omega arith)) (has-with_other label.done (12 + k) (6 + i) (λ q. omega arith)) soon (riders i h) in
      let first = sum_below-le (rider_late tau task after) (rider_late tau task label) (task_riders task) (λ i h. (rider i h).1) in
      let second = sum_below-le_one (passenger_late tau task label) (passenger_late tau task after) (task_passengers task) k late next.0
      (λ j h ne. (other j h ne).1) own.1 in (
        (λ i h. (rider i h).0),
        (λ j h. elim (cases_eq j k) [ inl e ↦ subst (λ n. PassengerCan tau task label n) (sym e) own.0 | inr ne ↦ (other j h ne).0 ]),
        omega (arith, first, second),
      )

  -- a way on and the label after its first stop
  pub goes_on_next : (label : Label) (s : Stop) (rest : List Stop) → GoesOn tau task label (s ∷ rest)
      → IsNextStop (task_riders task) (task_passengers task) label.done s × CanVisit tau task label s × GoesOn tau task (next_label tau task label s) rest
  goes_on_next label s rest way =
      let front = Completes-front (task_riders task) (task_passengers task) label.done few s rest way.completes in
      (front.0, (way.serves.0, way.serves.1, way.serves.2), record { completes = front.1; serves = way.serves.3 })

  pub is_ahead : (rest : List Stop) (label : Label) → GoesOn tau task label rest → IsAhead tau task label rest
  is_ahead [] label way = search (rules, IsAllDone-from_nil, still_out, sum_below-zero)
  is_ahead (s ∷ rest) label way = grind (arith, nat_tests, (goes_on_next label s rest way), (ahead_step label s), (is_ahead rest))
