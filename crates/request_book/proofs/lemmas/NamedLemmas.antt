-- Every step keeps that the state names nodes of the network alone.
use Rattle.std.proofs.lemmas.Bool.Decides.{nat_tests}
use Rattle.std.proofs.Common.{rules, arith, ◌≡◌, ℕ, ◌&&◌, List, [], ◌∷◌, ◌++◌, map, Option, Some, None, refl, sym, ap, subst, ◌∙◌, option_and_then}
use Rattle.request_book.proofs.Common.{
  first_of,
  cond_both,
  All-nil,
  All-cons,
  All-head,
  All-tail,
  All-append,
  All-push,
  All-map,
  All-weaker,
  Passenger,
  Rider,
  Vehicle,
  Command,
  Submit,
  Cancel,
  Report,
  Pickup,
  Dropoff,
  Seal,
  Close,
  Answer,
  Overflow,
  Planned,
  Accepted,
  Cancelled,
  Placed,
  Picked,
  Dropped,
  BookRider,
  Status,
  Aboard,
  Delivered,
  Expired,
  State,
  after_answer,
  after_plan,
  picks,
  in_batch,
  takes_in,
  lets_out,
  asking,
  planned_status,
  IsConsistent,
  IsNode,
  NamesNodes,
  seat_in,
  KeysDiffer,
  by_key,
  unknown_node,
  is_active,
  with_status,
  passenger_of,
  is_over,
  after_seal,
  batch_of,
  sealed_state,
  find_rider,
  find_vehicle,
  find_passenger,
  rider_becomes,
  vehicle_becomes,
  step,
  stands_at,
  picked_up,
  dropped_off,
  submit_refusal,
  submit_step,
  cancel_step,
  report_step,
  pickup_step,
  dropoff_step,
  seal_step,
  close_step,
  table_step,
}
use Rattle.std.specs.List.{All, filter_map, flat_map}
use Rattle.request_book.specs.Points.{named_nodes}
use Rattle.request_book.specs.lemmas.Points.{vehicle_nodes, rider_nodes}
use Rattle.request_book.specs.declared.values.rider.Status.TheVariants.{Cancelled as GivenUp}
use Rattle.request_book.proofs.lemmas.register.BatchLemmas.{batch-each}
use Rattle.request_book.proofs.lemmas.ConsistentLemmas.{answer-keeps, close-keeps}
use Rattle.request_book.proofs.lemmas.values.KeyedLemmas.{All-changed_at, All-look_up, All-from_look_up, KeysDiffer-from_rise}
use Rattle.request_book.proofs.lemmas.register.StepTable.{step-table}

All-flat_map : {X Y : Type 0} (P : Y → Type 0) (f : X → List Y) (xs : List X) → All (λ x. All P (f x)) xs → All P (flat_map f xs)
All-flat_map P f [] h = All-nil P
All-flat_map P f (x ∷ xs) h = All-append P (f x) (flat_map f xs) (All-head (λ x. All P (f x)) x xs h) (All-flat_map P f xs (All-tail (λ x. All P (f x)) x xs h))

-- a seat is the rider's own
seat-is : (x : ℕ) (r : BookRider) (p : Passenger) → seat_in x r ≡ Some p → passenger_of r ≡ p
seat-is x r p e = grind arith

module _ (nodes : List ℕ) where
  known : (node : ℕ) → unknown_node nodes node ≡ None → IsNode nodes node
  known node e = grind arith

  abbrev HasNodes : BookRider → Type 0
  HasNodes r = IsNode nodes r.origin × IsNode nodes r.destination

  differ : (s : State) → IsConsistent s → KeysDiffer (λ v. v.id) s.vehicles
  differ s kept = KeysDiffer-from_rise (λ (v : Vehicle). v.id) s.vehicles kept.vehicles_rise

  rider_becomes-named : (s : State) (k : ℕ) (status : Status) → IsConsistent s → NamesNodes nodes s → NamesNodes nodes (rider_becomes s k status)
  rider_becomes-named s k status kept named = search (rules, All-changed_at)

  vehicle_becomes-named : (s : State) (x : ℕ) (f : Vehicle → Vehicle) → KeysDiffer (λ v. v.id) s.vehicles → ((v : Vehicle) → IsNode nodes (f v).node) →
      NamesNodes nodes s → NamesNodes nodes (vehicle_becomes s x f)
  vehicle_becomes-named s x f once at named = search (rules, All-changed_at)

  submit-named : (s : State) (r : BookRider) → NamesNodes nodes s → NamesNodes nodes (submit_step nodes s r).0
  unfolding submit_step first_of
  submit-named s r named =
      answer-keeps (NamesNodes nodes) s (submit_refusal nodes s r) Accepted (record s { riders = s.riders ++ r ∷ [] }) named (λ none.
      let origin : IsNode nodes r.origin = grind arith in
      let destination : IsNode nodes r.destination = grind arith in
      record { riders = All-push HasNodes s.riders r named.riders (origin, destination); vehicles = named.vehicles; sealed = named.sealed })

  cancel-named : (s : State) (rider : ℕ) → IsConsistent s → NamesNodes nodes s → NamesNodes nodes (cancel_step s rider).0
  unfolding cancel_step
  cancel-named s rider kept named =
      answer-keeps (NamesNodes nodes) s _ Cancelled (rider_becomes s rider GivenUp) named (λ none. rider_becomes-named s rider GivenUp kept named)

  report-named : (s : State) (vehicle node time : ℕ) → IsConsistent s → NamesNodes nodes s → NamesNodes nodes (report_step nodes s vehicle node time).0
  unfolding report_step first_of
  report-named s vehicle node time kept named =
      answer-keeps (NamesNodes nodes) s _ Placed (vehicle_becomes s vehicle (stands_at node time)) named (λ none.
      vehicle_becomes-named s vehicle (stands_at node time) (differ s kept) (λ v. grind arith) named)

  pickup-named : (s : State) (vehicle rider time : ℕ) → IsConsistent s → NamesNodes nodes s → NamesNodes nodes (pickup_step s vehicle rider time).0
  unfolding pickup_step
  pickup-named s vehicle rider time kept named =
      answer-keeps (NamesNodes nodes) s _ Picked (picked_up s (find_rider rider s.riders) vehicle time) named (λ none. by (find_rider rider s.riders) refl)
    where
      by : (o : Option BookRider) → find_rider rider s.riders ≡ o → NamesNodes nodes (picked_up s o vehicle time)
      by None e = named
      by (Some r) e =
          vehicle_becomes-named (rider_becomes s r.id (Aboard vehicle)) vehicle (takes_in r time) (differ s kept)
          (λ v. (All-look_up (λ (r : BookRider). r.id) HasNodes rider s.riders r named.riders e).0)
          (rider_becomes-named s r.id (Aboard vehicle) kept named)

  dropoff-named : (s : State) (vehicle rider time : ℕ) → IsConsistent s → NamesNodes nodes s → NamesNodes nodes (dropoff_step s vehicle rider time).0
  unfolding dropoff_step
  dropoff-named s vehicle rider time kept named =
      answer-keeps (NamesNodes nodes) s _ Dropped (dropped_off s (find_rider rider s.riders) vehicle time) named (λ none. by (find_rider rider s.riders) refl)
    where
      by : (o : Option BookRider) → find_rider rider s.riders ≡ o → NamesNodes nodes (dropped_off s o vehicle time)
      by None e = named
      by (Some r) e =
          vehicle_becomes-named (rider_becomes s r.id Delivered) vehicle (lets_out r time) (differ s kept)
          (λ v. (All-look_up (λ (r : BookRider). r.id) HasNodes rider s.riders r named.riders e).1)
          (rider_becomes-named s r.id Delivered kept named)

  two : (a b : ℕ) → IsNode nodes a → IsNode nodes b → All (IsNode nodes) (a ∷ b ∷ [])
  two a b p q = All-cons (IsNode nodes) a (b ∷ []) p (All-cons (IsNode nodes) b [] q (All-nil (IsNode nodes)))

  -- the nodes of a consistent state's batch are among those of the state
  module _ (wait now : ℕ) (s : State) (kept : IsConsistent s) (named : NamesNodes nodes s) where
    rider-named : (k : ℕ) (r : BookRider) → find_rider k s.riders ≡ Some r → HasNodes r
    rider-named k r found = All-look_up (λ (r : BookRider). r.id) HasNodes k s.riders r named.riders found

    seat-named : (x k : ℕ) (v : Vehicle) (p : Passenger) → find_vehicle x s.vehicles ≡ Some v → find_passenger k v.aboard.items ≡ Some p →
        All (IsNode nodes) (p.origin ∷ p.destination ∷ [])
    seat-named x k v p at seated =
        by (find_rider k s.riders) refl
        (sym (sym (ap (option_and_then (λ (u : Vehicle). find_passenger k u.aboard.items)) at) ∙ kept.aboard x k) ∙ seated)
      where
        by : (o : Option BookRider) → find_rider k s.riders ≡ o → option_and_then (seat_in x) o ≡ Some p → All (IsNode nodes) (p.origin ∷ p.destination ∷ [])
        by None e f = absurd cc
        by (Some r) e f =
            let has = rider-named k r e in
            subst (λ (q : Passenger). All (IsNode nodes) (q.origin ∷ q.destination ∷ [])) (seat-is x r p f) (two r.origin r.destination has.0 has.1)

    vehicle-named : (x : ℕ) (v : Vehicle) → find_vehicle x s.vehicles ≡ Some v → All (IsNode nodes) (vehicle_nodes v)
    vehicle-named x v at =
        All-cons (IsNode nodes) v.node (flat_map (λ (p : Passenger). p.origin ∷ p.destination ∷ []) v.aboard.items)
        (All-look_up (λ (v : Vehicle). v.id) (λ (v : Vehicle). IsNode nodes v.node) x s.vehicles v named.vehicles at)
        (All-flat_map (IsNode nodes) (λ (p : Passenger). p.origin ∷ p.destination ∷ []) v.aboard.items
        (All-from_look_up (λ (p : Passenger). p.rider) (λ (p : Passenger). All (IsNode nodes) (p.origin ∷ p.destination ∷ [])) v.aboard.items
        (All-look_up (λ (v : Vehicle). v.id) (λ (v : Vehicle). KeysDiffer (λ p. p.rider) v.aboard.items) x s.vehicles v kept.passengers at)
        (λ k p seated. seat-named x k v p at seated)))

    batch-named : All (IsNode nodes) (named_nodes (batch_of wait s now))
    unfolding batch_of
    batch-named =
        All-append (IsNode nodes) (flat_map vehicle_nodes s.vehicles)
        (flat_map rider_nodes (by_key (λ r. r.id) (filter_map (asking now) (map (after_seal wait now) s.riders))))
        (All-flat_map (IsNode nodes) vehicle_nodes s.vehicles
        (All-from_look_up (λ (v : Vehicle). v.id) (λ (v : Vehicle). All (IsNode nodes) (vehicle_nodes v)) s.vehicles (differ s kept) vehicle-named))
        (All-flat_map (IsNode nodes) rider_nodes (by_key (λ r. r.id) (filter_map (asking now) (map (after_seal wait now) s.riders)))
        (batch-each wait now s kept (λ (y : Rider). All (IsNode nodes) (rider_nodes y)) (λ k r y found is.
        let has = rider-named k r found in
        two y.origin y.destination (subst (IsNode nodes) (sym is.origin) has.0) (subst (IsNode nodes) (sym is.destination) has.1))))

    sealed-named : NamesNodes nodes (sealed_state wait s now)
    unfolding sealed_state
    sealed-named = record {
      riders = All-map HasNodes (after_seal wait now) s.riders (All-weaker HasNodes (λ r. HasNodes (after_seal wait now r))
          (λ r has. cond_both (is_over wait now r) (with_status Expired r) r HasNodes (λ b. has) (λ b. has)) s.riders named.riders);
      vehicles = named.vehicles;
      sealed = λ b e. let is : batch_of wait s now ≡ b = cc in subst (λ b. All (IsNode nodes) (named_nodes b)) is batch-named;
    }

  seal-named : (wait : ℕ) (s : State) (now : ℕ) → IsConsistent s → NamesNodes nodes s → NamesNodes nodes (seal_step wait s now).0
  unfolding seal_step
  seal-named wait s now kept named = grind (arith, nat_tests, answer-keeps, (sealed-named wait now s kept named))

  answer-named : (batch : List Rider) (a : Answer) (riders : List BookRider) → All HasNodes riders → All HasNodes (after_answer batch a riders)
  unfolding after_answer
  answer-named batch Overflow riders named = named
  answer-named batch (Planned plan) riders named =
      let after = after_plan batch (picks plan.chosen) in
      All-map HasNodes after riders (All-weaker HasNodes (λ r. HasNodes (after r)) (λ r has. cond_both (is_active r.status && in_batch batch r.id)
      (with_status (planned_status (picks plan.chosen) r.id) r) r HasNodes (λ b. has) (λ b. has)) riders named)

  close-named : (s : State) (batch : ℕ) (a : Answer) → NamesNodes nodes s → NamesNodes nodes (close_step s batch a).0
  close-named s batch a named =
      close-keeps (NamesNodes nodes) s batch a named (λ b e. record {
        riders = answer-named b.riders a s.riders named.riders;
        vehicles = named.vehicles;
        sealed = λ c f. absurd cc;
      })

  table-named : (wait : ℕ) (s : State) (command : Command) → IsConsistent s → NamesNodes nodes s → NamesNodes nodes (table_step nodes wait s command).0
  unfolding table_step
  table-named wait s (Submit rider origin destination time party) kept named = search (rules, submit-named)
  table-named wait s (Cancel rider) kept named = cancel-named s rider kept named
  table-named wait s (Report vehicle node time) kept named = report-named s vehicle node time kept named
  table-named wait s (Pickup vehicle rider time) kept named = pickup-named s vehicle rider time kept named
  table-named wait s (Dropoff vehicle rider time) kept named = dropoff-named s vehicle rider time kept named
  table-named wait s (Seal now) kept named = seal-named wait s now kept named
  table-named wait s (Close batch outcome) kept named = close-named s batch outcome.answer named

  pub step-named : (wait : ℕ) (s : State) (command : Command) → IsConsistent s → NamesNodes nodes s → NamesNodes nodes (step nodes wait s command).0
  step-named wait s command kept named = subst (λ p. NamesNodes nodes p.0) (sym (step-table nodes wait s command)) (table-named wait s command kept named)
