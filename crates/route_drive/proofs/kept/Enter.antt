-- Stops that are entered: what each leaves of what the vehicles have to do.
use Rattle.std.proofs.Common.{◌≡◌, ℕ, ◌+◌, ◌-◌, ◌≤◌, true, false, List, [], ◌∷◌, length, Some, refl, sym, ap, ◌∙◌, subst, arith, inl, inr, length-append}
use Rattle.route_drive.proofs.Common.{
  AllByRecursion,
  option_map_or,
  cases_eq,
  MatchBool-at_true,
  MatchBool-at_false,
  sum_by-cons,
  sum_by_push,
  persons_aboard,
  Passenger,
  Vehicle,
  look_up,
  without,
  KeysDiffer,
  with_status,
  passenger_of,
  find_rider,
  find_passenger,
  takes_in,
  lets_out,
  PlannedStop,
  BookRider,
  Status,
  Promised,
  Aboard,
  Delivered,
  without_key-absent,
  Settings,
  Roads,
  IsDroppedInTime,
  AreReached,
  party_at,
  seats_after,
  IsRightPickup,
  IsRightDropoff,
  IsRightStop,
  IsOfVehicle,
  calls_of,
  HasCalls,
  IsServing,
  sum_by,
  nat_tests,
}
use Rattle.route_drive.proofs.kept.Lists.{both, all_weaker, all_from}
use Rattle.route_drive.proofs.kept.Riders.{
  changed,
  find_other,
  find_same,
  same_party,
  seats_by_party,
  calls_own,
  calls_other,
  no_pickup,
  no_stop,
  right_elsewhere,
  serves_elsewhere,
}

-- a passenger who gets out leaves one passenger less, and the seats of their party
fewer : (x : ℕ) (ps : List Passenger) (p : Passenger) → KeysDiffer (λ p. p.rider) ps → find_passenger x ps ≡ Some p
    → (length (without (λ p. p.rider) x ps) + 1 ≡ length ps) × (sum_by (λ p. p.party) (without (λ p. p.rider) x ps) + p.party ≡ sum_by (λ p. p.party) ps)
unfolding KeysDiffer without look_up
fewer x [] p differ found = absurd cc
fewer x (q ∷ ps) p differ found =
    let ih = fewer x ps p differ.1 in
    let all = sum_by-cons (λ (p : Passenger). p.party) q ps in
    let rest = sum_by-cons (λ (p : Passenger). p.party) q (without (λ (p : Passenger). p.rider) x ps) in
    grind (arith, nat_tests, without_key-absent (λ (p : Passenger). p.rider) x ps)

module _ (settings : Settings) (roads : Roads) (riders : List BookRider) where
  -- a vehicle goes on serving where the status of a rider of another vehicle changes
  pub others_serve : (x : ℕ) (r : BookRider) (status : Status) (w : Vehicle) (free : ℕ) (stops : List PlannedStop) → find_rider x riders ≡ Some r
      → (IsOfVehicle w.id r.status → ⊥) → (IsOfVehicle w.id status → ⊥)
      → IsServing settings roads riders w free stops → IsServing settings roads (changed riders x status) w free stops
  others_serve x r status w free stops found old new serves = serves_elsewhere settings roads riders (changed riders x status) w free stops
      (λ y q at own. find_other riders x status y (λ e.
      let is : q ≡ r = cc (e, at, found) in
      old (subst (λ (q : BookRider). IsOfVehicle w.id q.status) is own)))
      (λ y q at own. elim (cases_eq x y) [
        | inl e ↦
            let is : q ≡ with_status status r = cc (find_same riders x status r found, e, at) in
            absurd (new (subst (λ (q : BookRider). IsOfVehicle w.id q.status) is own))
        | inr ne ↦ sym (find_other riders x status y ne) ∙ at
      ])
      serves

  -- who is picked up
  pub picked_up_right : (v : ℕ) (stop : PlannedStop) → stop.pick ≡ true → IsRightStop settings roads riders v stop → IsRightPickup settings.wait riders v stop
  picked_up_right v stop pick right = MatchBool-at_true (IsRightPickup settings.wait riders v stop) (IsRightDropoff roads settings.delay riders v stop) pick
      right

  pub dropped_right : (v : ℕ) (stop : PlannedStop) → stop.pick ≡ false → IsRightStop settings roads riders v stop →
      IsRightDropoff roads settings.delay riders v stop
  dropped_right v stop pick right = MatchBool-at_false (IsRightPickup settings.wait riders v stop) (IsRightDropoff roads settings.delay riders v stop) pick
      right

  -- the vehicle serves the stops after a pickup
  pub serves_on_picked : (v : Vehicle) (free : ℕ) (stop : PlannedStop) (stops : List PlannedStop) (r : BookRider) → stop.pick ≡ true →
      find_rider stop.rider riders ≡ Some r
      → r.status ≡ Promised (record { vehicle = v.id; pickup = stop.second }) → stop.node ≡ r.origin → r.party ≤ v.seats - persons_aboard v
      → IsServing settings roads riders v free (stop ∷ stops)
      → IsServing settings roads (changed riders stop.rider (Aboard v.id)) (takes_in r stop.second v) (stop.second + settings.dwell) stops
  serves_on_picked v free stop stops r pick found status node fits serves =
      let own : calls_of stop.rider (stop ∷ stops) ≡ true ∷ false ∷ [] = (subst (λ t. HasCalls v.id t (calls_of stop.rider (stop ∷ stops))) status
      (serves.calls stop.rider r found)) refl in
      let later : calls_of stop.rider stops ≡ false ∷ [] = cc (calls_own stop.rider stop stops refl, own) in
      let party : party_at riders stop ≡ r.party = ap (λ o. option_map_or (λ (r : BookRider). r.party) o 0) found in
      let persons : persons_aboard (takes_in r stop.second v) ≡ persons_aboard v + r.party =
      sum_by_push (λ (p : Passenger). p.party) v.aboard.items (passenger_of r) in
      let after : seats_after riders stop (v.seats - persons_aboard v) ≡ v.seats - persons_aboard v - party_at riders stop = rw pick refl in
      record {
        reached = subst (λ n. AreReached roads settings.dwell n (stop.second + settings.dwell) stops) node serves.reached.1;
        seats = seats_by_party riders (changed riders stop.rider (Aboard v.id)) (seats_after riders stop (v.seats - persons_aboard v))
            (v.seats - persons_aboard (takes_in r stop.second v)) (omega (arith, after, party, persons)) stops
            (all_from (λ s. party_at (changed riders stop.rider (Aboard v.id)) s ≡ party_at riders s) (same_party riders stop.rider (Aboard v.id)) stops)
            serves.seats.1;
        right = all_weaker (λ (s : PlannedStop). IsRightStop settings roads riders v.id s × (s.rider ≡ stop.rider → s.pick ≡ false))
            (IsRightStop settings roads (changed riders stop.rider (Aboard v.id)) v.id)
            (λ s h. elim (cases_eq stop.rider s.rider) [
              | inl e ↦
                  let drop : s.pick ≡ false = h.1 (sym e) in
                  let was = dropped_right v.id s drop h.0 in
                  let is : was.rider ≡ r = cc (e, was.found, found) in
                  rw drop (record {
                    rider = with_status (Aboard v.id) r;
                    found = subst (λ k. find_rider k (changed riders stop.rider (Aboard v.id)) ≡ Some (with_status (Aboard v.id) r)) e
                        (find_same riders stop.rider (Aboard v.id) r found);
                    own = refl;
                    node = was.node ∙ ap (λ (q : BookRider). q.destination) is;
                    in_time = still (subst (λ (q : BookRider). IsDroppedInTime roads settings.delay q s.second) is was.in_time);
                  })
              | inr ne ↦ right_elsewhere settings roads riders (changed riders stop.rider (Aboard v.id)) v.id s
                  (find_other riders stop.rider (Aboard v.id) s.rider ne) h.0
            ]) stops
            (both (IsRightStop settings roads riders v.id) (λ (s : PlannedStop). s.rider ≡ stop.rider → s.pick ≡ false) stops serves.right.1
            (no_pickup stop.rider stops (subst (λ bs. AllByRecursion (λ b. b ≡ false) bs) (sym later) (refl, tt))));
        calls = λ y q at. elim (cases_eq stop.rider y) [
          | inl e ↦
              let is : with_status (Aboard v.id) r ≡ q = cc (find_same riders stop.rider (Aboard v.id) r found, e, at) in
              subst (λ (q : BookRider). HasCalls v.id q.status (calls_of y stops)) is (λ same. subst (λ k. calls_of k stops ≡ false ∷ []) e later)
          | inr ne ↦ subst (HasCalls v.id q.status) (calls_other y stop stops ne) (serves.calls y q
              (sym (find_other riders stop.rider (Aboard v.id) y ne) ∙ at))
        ];
        few = let f = serves.few in omega (arith, f, length-append v.aboard.items (passenger_of r ∷ []));
      }
    where
      still : {second : ℕ} → IsDroppedInTime roads settings.delay r second → IsDroppedInTime roads settings.delay (with_status (Aboard v.id) r) second
      still in_time = record { seconds = in_time.seconds; between = in_time.between; in_time = in_time.in_time }

  -- who gets out is aboard
  pub dropped_is_aboard : (v : ℕ) (stop : PlannedStop) (stops : List PlannedStop) (r : BookRider) → stop.pick ≡ false → IsOfVehicle v r.status
      → HasCalls v r.status (calls_of stop.rider (stop ∷ stops)) → (r.status ≡ Aboard v) × (calls_of stop.rider stops ≡ [])
  dropped_is_aboard v stop stops r pick own calls = grind (arith, nat_tests, calls_own stop.rider stop stops refl)

  -- the vehicle serves the stops after a drop-off
  pub serves_on_dropped : (v : Vehicle) (free : ℕ) (stop : PlannedStop) (stops : List PlannedStop) (r : BookRider) (p : Passenger) → stop.pick ≡ false →
      find_rider stop.rider riders ≡ Some r
      → r.id ≡ stop.rider → calls_of stop.rider stops ≡ [] → stop.node ≡ r.destination
      → KeysDiffer (λ p. p.rider) v.aboard.items → find_passenger stop.rider v.aboard.items ≡ Some p → p.party ≡ r.party → persons_aboard v ≤ v.seats
      → IsServing settings roads riders v free (stop ∷ stops)
      → IsServing settings roads (changed riders stop.rider Delivered) (lets_out r stop.second v) (stop.second + settings.dwell) stops
  serves_on_dropped v free stop stops r p pick found id none node differ seated same fits serves =
      let party : party_at riders stop ≡ r.party = ap (λ o. option_map_or (λ (r : BookRider). r.party) o 0) found in
      let less = fewer r.id v.aboard.items p differ (subst (λ k. find_passenger k v.aboard.items ≡ Some p) (sym id) seated) in
      let persons : persons_aboard (lets_out r stop.second v) + p.party ≡ persons_aboard v = less.1 in
      let count : length (without (λ (p : Passenger). p.rider) r.id v.aboard.items) + 1 ≡ length v.aboard.items = less.0 in
      let after : seats_after riders stop (v.seats - persons_aboard v) ≡ v.seats - persons_aboard v + party_at riders stop = rw pick refl in
      record {
        reached = subst (λ n. AreReached roads settings.dwell n (stop.second + settings.dwell) stops) node serves.reached.1;
        seats = seats_by_party riders (changed riders stop.rider Delivered) (seats_after riders stop (v.seats - persons_aboard v))
            (v.seats - persons_aboard (lets_out r stop.second v)) (omega (arith, after, party, persons, same, fits)) stops
            (all_from (λ s. party_at (changed riders stop.rider Delivered) s ≡ party_at riders s) (same_party riders stop.rider Delivered) stops)
            serves.seats.1;
        right = all_weaker (λ (s : PlannedStop). IsRightStop settings roads riders v.id s × (s.rider ≡ stop.rider → ⊥))
            (IsRightStop settings roads (changed riders stop.rider Delivered) v.id)
            (λ s h. right_elsewhere settings roads riders (changed riders stop.rider Delivered) v.id s
            (find_other riders stop.rider Delivered s.rider (λ e. h.1 (sym e))) h.0) stops
            (both (IsRightStop settings roads riders v.id) (λ (s : PlannedStop). s.rider ≡ stop.rider → ⊥) stops serves.right.1
            (no_stop stop.rider stops none));
        calls = λ y q at. elim (cases_eq stop.rider y) [
          | inl e ↦
              let is : with_status Delivered r ≡ q = cc (find_same riders stop.rider Delivered r found, e, at) in
              subst (λ (q : BookRider). HasCalls v.id q.status (calls_of y stops)) is tt
          | inr ne ↦ subst (HasCalls v.id q.status) (calls_other y stop stops ne) (serves.calls y q (sym (find_other riders stop.rider Delivered y ne) ∙ at))
        ];
        few = let f = serves.few in omega (arith, f, count);
      }
