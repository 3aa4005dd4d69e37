-- Requests and seals: what they leave of the riders on a driven day, and whom the batch shows.
use Rattle.std.proofs.Common.{
  ◌≡◌,
  ◌⊎◌,
  ℕ,
  ◌+◌,
  ◌<◌,
  ◌≤◌,
  Bool,
  true,
  false,
  List,
  [],
  ◌∷◌,
  ◌++◌,
  map,
  Option,
  Some,
  None,
  refl,
  sym,
  ap,
  ◌∙◌,
  subst,
  arith,
  inl,
  inr,
  option_map,
  option_and_then,
  rules,
}
use Rattle.route_drive.proofs.Common.{
  AllByRecursion,
  cases_eq,
  Rider,
  Vehicle,
  look_up,
  by_key,
  KeysDiffer,
  after_seal,
  batch_of,
  sealed_state,
  asking,
  find_rider,
  find_vehicle,
  step,
  Submit,
  Seal,
  PlannedStop,
  Reply,
  BookRider,
  Status,
  Waiting,
  Promised,
  Aboard,
  Delivered,
  Expired,
  State,
  after_seal-id,
  look_up-key,
  look_up-map,
  look_up-push_there,
  look_up-push_here,
  look_up-push_found,
  look_up-filter_map,
  by_key-order,
  KeysDiffer-map,
  KeysDiffer-filter_map,
  Settings,
  Roads,
  IsOfVehicle,
  IsRightStop,
  IsServing,
  IsDayState,
  IsKept,
  HasCalls,
  calls_of,
  IsBoundBy,
  IsBound,
  KeepsBounds,
  LeavesAll,
  ShowsRiders,
  le-ltb,
  le-leb,
  filter_map,
  nat_tests,
}
use Rattle.route_drive.proofs.kept.Lists.{both}
use Rattle.route_drive.proofs.kept.Riders.{serves_elsewhere}
use Rattle.route_drive.proofs.kept.Enter.{picked_up_right}
use Rattle.route_drive.proofs.kept.Replies.{submit_is}
use Rattle.route_drive.proofs.kept.States.{stepped}

-- one more rider, who waits
module _ (settings : Settings) (roads : Roads) (riders : List BookRider) (q : BookRider) (new : find_rider q.id riders ≡ None) (waits : q.status ≡ Waiting)
  where
    pub still_found : (x : ℕ) (r : BookRider) → find_rider x riders ≡ Some r → find_rider x (riders ++ q ∷ []) ≡ Some r
    still_found x r e = look_up-push_found (λ (r : BookRider). r.id) x q r riders e

    pub found_before : (x : ℕ) (r : BookRider) → find_rider x (riders ++ q ∷ []) ≡ Some r → (r.status ≡ Waiting → ⊥) → find_rider x riders ≡ Some r
    found_before x r e not = search (rules, cases_eq, look_up-push_here, look_up-push_there)

    pub serve_still : (w : Vehicle) (free : ℕ) (stops : List PlannedStop) → IsServing settings roads riders w free stops →
        IsServing settings roads (riders ++ q ∷ []) w free stops
    serve_still w free stops serves = serves_elsewhere settings roads riders (riders ++ q ∷ []) w free stops
        (λ x r e own. still_found x r e ∙ sym e)
        (λ x r e own. found_before x r e (λ h. subst (IsOfVehicle w.id) h own))
        serves

pub submit_done : (settings : Settings) (roads : Roads) (s : State) (rider origin destination time party : ℕ) → IsDayState roads s
    → LeavesAll settings roads s (step roads.nodes settings.wait s (Submit rider origin destination time party)).0
submit_done settings roads s rider origin destination time party day = by (submit_is roads.nodes settings.wait s rider origin destination time party)
  where
    q : BookRider
    q = record { id = rider; origin = origin; destination = destination; time = time; party = party; status = Waiting }

    by : ((step roads.nodes settings.wait s (Submit rider origin destination time party)).0 ≡ s)
        ⊎ ((find_rider rider s.riders ≡ None) × ((step roads.nodes settings.wait s (Submit rider origin destination time party)).0 ≡ record s
        { riders = s.riders ++ (record { id = rider; origin = origin; destination = destination; time = time; party = party; status = Waiting }) ∷ [] }))
        → LeavesAll settings roads s (step roads.nodes settings.wait s (Submit rider origin destination time party)).0
    by (inl same) = subst (LeavesAll settings roads s) (sym same) (record {
      state = day;
      vehicles = refl;
      serve = λ id w free stops e serves. serves;
      bounds =
          λ x limit b. b;
      shows = λ b shows. shows;
    })
    by (inr two) =
        let new = two.0 in
        let next : State = record s { riders = s.riders ++ q ∷ [] } in
        let is = two.1 in
        subst (LeavesAll settings roads s) (sym is) (record {
          state = stepped settings roads s next (Submit rider origin destination time party) day is (λ x r promise e t.
              let was = day.promises x r promise (found_before settings roads s.riders q new refl x r e
              (λ h. let f : Promised promise ≡ Waiting = sym t ∙ h in absurd cc)) t in
              record { last = was.last; sealed = was.sealed; asked = was.asked; vehicle = was.vehicle; at = was.at });
          vehicles = refl;
          serve = λ id w free stops e serves. serve_still settings roads s.riders q new refl w free stops serves;
          bounds = λ x limit b. record { of = b.of; found = still_found settings roads s.riders q new refl x b.of b.found; bound = b.bound };
          shows = λ b shows. record {
            rise = shows.rise;
            shows = λ x y e. let was = shows.shows x y e in (was.0, still_found settings roads s.riders q new refl x was.0 was.1, was.2);
            promised = λ x r p e t. shows.promised x r p (found_before settings roads s.riders q new refl x r e
                (λ h. let f : Promised p ≡ Waiting = sym t ∙ h in absurd cc)) t;
            vehicles = shows.vehicles;
            last = shows.last;
          };
        })

-- the first of a rider's calls
pub first_call : (P : PlannedStop → Type 0) (x : ℕ) (b : Bool) (bs : List Bool) (stops : List PlannedStop) → calls_of x stops ≡ b ∷ bs → AllByRecursion P stops
    → (stop : PlannedStop) × (stop.rider ≡ x) × (stop.pick ≡ b) × P stop
first_call P x b bs [] e all = absurd cc
first_call P x b bs (stop ∷ stops) e all = search (rules, cases_eq, nat_tests, (first_call P x b bs stops))

-- a seal on a driven day: all stops are later, and so nobody who is promised or aboard expires
module _ (settings : Settings) (roads : Roads) (s : State) (stops : ℕ → List PlannedStop) (now : ℕ) (kept : IsKept settings roads s stops)
    (later : (id : ℕ) (v : Vehicle) → find_vehicle id s.vehicles ≡ Some v → AllByRecursion (λ (stop : PlannedStop). now < stop.second) (stops id))
    (after_time : (last : ℕ) → s.last_seal ≡ Some last → last ≤ now) where
  not_over : (x : ℕ) (r : BookRider) (w : ℕ) (v : Vehicle) → find_rider x s.riders ≡ Some r → find_vehicle w s.vehicles ≡ Some v → IsOfVehicle w r.status →
      after_seal settings.wait now r ≡ r
  not_over x r w v e at own = by r.status refl own
    where
      serves : IsServing settings roads s.riders v v.time (stops w)
      serves = kept.each w v at

      id : v.id ≡ w
      id = look_up-key (λ (v : Vehicle). v.id) w s.vehicles v at

      by : (t : Status) → r.status ≡ t → IsOfVehicle w t → after_seal settings.wait now r ≡ r
      by (Promised p) f h =
          let calls = subst (λ t. HasCalls v.id t (calls_of x (stops w))) f (serves.calls x r e) in
          let first = first_call (λ stop. IsRightStop settings roads s.riders v.id stop × (now < stop.second)) x true (false ∷ []) (stops w)
          (calls (h ∙ sym id))
          (both (IsRightStop settings roads s.riders v.id) (λ (stop : PlannedStop). now < stop.second) (stops w) serves.right (later w v at)) in
          let right = picked_up_right settings roads s.riders v.id first.0 first.2 first.3.0 in
          let is : right.rider ≡ r = cc (first.1, right.found, e) in
          let time : right.rider.time ≡ r.time = ap (λ (r : BookRider). r.time) is in
          rw (f, le-ltb (r.time + settings.wait) now (omega (arith, time, right.in_time, first.3.1))) refl
      by (Aboard u) f h = rw f refl
      by status f h = absurd h

  abbrev after : List BookRider
  after = map (after_seal settings.wait now) s.riders

  find_after : (x : ℕ) → find_rider x after ≡ option_map (after_seal settings.wait now) (find_rider x s.riders)
  find_after x = look_up-map (λ (r : BookRider). r.id) (after_seal settings.wait now) (after_seal-id settings.wait now) x s.riders

  find_kept : (x : ℕ) (r : BookRider) (w : ℕ) (v : Vehicle) → find_rider x s.riders ≡ Some r → find_vehicle w s.vehicles ≡ Some v → IsOfVehicle w r.status →
      find_rider x after ≡ Some r
  find_kept x r w v e at own = find_after x ∙ ap (option_map (after_seal settings.wait now)) e ∙ ap Some (not_over x r w v e at own)

  -- whoever isn't expired after the seal was the same before
  find_was : (x : ℕ) (q : BookRider) → find_rider x after ≡ Some q → (q.status ≡ Expired → ⊥) → find_rider x s.riders ≡ Some q
  find_was x q e not = grind (arith, nat_tests, find_after x)

  asking_id : (r : BookRider) (y : Rider) → asking now r ≡ Some y → y.id ≡ r.id
  asking_id r y e = grind (arith, nat_tests)

  differ : KeysDiffer (λ (r : BookRider). r.id) after
  differ = KeysDiffer-map (λ (r : BookRider). r.id) (after_seal settings.wait now) (after_seal-id settings.wait now) s.riders
      kept.state.consistent.riders_differ

  differ_shown : KeysDiffer (λ (y : Rider). y.id) (filter_map (asking now) after)
  differ_shown = KeysDiffer-filter_map (λ (r : BookRider). r.id) (λ (y : Rider). y.id) (asking now) asking_id after differ

  -- the batch shows who asked by then and waits or has a promise
  shown_in : (x : ℕ) → look_up (λ (y : Rider). y.id) x (by_key (λ y. y.id) (filter_map (asking now) after)) ≡ option_and_then (asking now) (find_rider x after)
  shown_in x =
      (by_key-order (λ (y : Rider). y.id) (filter_map (asking now) after) differ_shown).found x
      ∙ look_up-filter_map (λ (r : BookRider). r.id) (λ (y : Rider). y.id) (asking now) asking_id x after differ

  -- what the seal leaves
  pub sealed_kept : (reply : Reply) → step roads.nodes settings.wait s (Seal now) ≡ (sealed_state settings.wait s now, reply) →
      IsKept settings roads (sealed_state settings.wait s now) stops
  unfolding sealed_state
  sealed_kept reply is = record {
    state = stepped settings roads s (sealed_state settings.wait s now) (Seal now) kept.state (ap (λ (p : State × Reply). p.0) is) (λ x r promise e t.
        let was = kept.state.promises x r promise (find_was x r e (λ h. let f : Promised promise ≡ Expired = sym t ∙ h in absurd cc)) t in
        record {
          last = now;
          sealed = refl;
          asked = let a = was.asked in omega (arith, a, after_time was.last was.sealed);
          vehicle = was.vehicle;
          at =
              was.at;
        });
    each = λ id v at. serves_elsewhere settings roads s.riders after v v.time (stops id)
        (λ x r e own. find_kept x r id v e at (subst (λ k. IsOfVehicle k r.status) (look_up-key (λ (v : Vehicle). v.id) id s.vehicles v at) own) ∙ sym e)
        (λ x r e own. find_was x r e (λ h. subst (IsOfVehicle v.id) h own))
        (kept.each id v at);
  }

  pub sealed_bounds : KeepsBounds s (sealed_state settings.wait s now)
  unfolding sealed_state
  sealed_bounds x limit was = by was.of.status refl was.bound
    where
      by : (t : Status) → was.of.status ≡ t → IsBoundBy limit t → IsBound (sealed_state settings.wait s now) x limit
      by (Promised p) e b =
          let of = kept.state.promises x was.of p was.found e in
          record {
            of = was.of;
            found = find_kept x was.of p.vehicle of.vehicle was.found of.at (subst (IsOfVehicle p.vehicle) (sym e) refl);
            bound =
                was.bound;
          }
      by (Aboard u) e b = record {
        of = was.of;
        found = find_after x ∙ ap (option_map (after_seal settings.wait now)) was.found ∙ ap Some (rw e refl);
        bound =
            was.bound;
      }
      by Delivered e b = record {
        of = was.of;
        found = find_after x ∙ ap (option_map (after_seal settings.wait now)) was.found ∙ ap Some (rw e refl);
        bound =
            was.bound;
      }
      by status e b = absurd b

  pub sealed_shows : ShowsRiders (sealed_state settings.wait s now) (batch_of settings.wait s now)
  unfolding sealed_state batch_of
  sealed_shows = record {
    rise = (by_key-order (λ (y : Rider). y.id) (filter_map (asking now) after) differ_shown).rise;
    shows = λ x y e. by x y (find_rider x after) refl (sym (shown_in x) ∙ e);
    promised = λ x r p e t.
        let was = kept.state.promises x r p (find_was x r e (λ h. let f : Promised p ≡ Expired = sym t ∙ h in absurd cc)) t in
        let early : r.time ≤ now = let a = was.asked in omega (arith, a, after_time was.last was.sealed) in
        shown_in x ∙ ap (option_and_then (asking now)) e ∙ rw (le-leb r.time now early, t) refl;
    vehicles = refl;
    last = refl;
  }
    where
      by : (x : ℕ) (y : Rider) (o : Option BookRider) → find_rider x after ≡ o → option_and_then (asking now) o ≡ Some y →
          (r : BookRider) × (find_rider x after ≡ Some r) × (asking now r ≡ Some y)
      by x y None e f = absurd cc
      by x y (Some r) e f = (r, e, f)
