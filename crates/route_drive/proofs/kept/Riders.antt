-- What a change of one rider's status, or of one vehicle, leaves.
use Rattle.std.proofs.Common.{◌≡◌, ◌⊎◌, ℕ, ◌-◌, ◌≤◌, Bool, true, false, List, [], ◌∷◌, Some, refl, ap, ◌∙◌, arith, inl, inr, option_map, rules}
use Rattle.route_drive.proofs.Common.{
  AllByRecursion,
  option_map_or,
  cases_eq,
  persons_aboard,
  Vehicle,
  changed_at,
  with_status,
  find_rider,
  PlannedStop,
  BookRider,
  Status,
  Promised,
  Aboard,
  look_up-key,
  look_up-changed_here,
  look_up-changed_there,
  Settings,
  Roads,
  party_at,
  seats_after,
  HasSeatsFor,
  IsRightPickup,
  IsRightDropoff,
  IsRightStop,
  IsOfVehicle,
  calls_of,
  HasCalls,
  IsServing,
  nat_tests,
}
use Rattle.route_drive.proofs.kept.Lists.{all_weaker}

-- what is found has the id that was looked for
pub found_id : (x : ℕ) (riders : List BookRider) (r : BookRider) → find_rider x riders ≡ Some r → r.id ≡ x
found_id x riders r e = look_up-key (λ (r : BookRider). r.id) x riders r e

-- what one rider's status leaves of the riders
module _ (riders : List BookRider) (x : ℕ) (status : Status) where
  abbrev pub changed : List BookRider
  changed = changed_at (λ r. r.id) x (with_status status) riders

  pub find_other : (y : ℕ) → (x ≡ y → ⊥) → find_rider y changed ≡ find_rider y riders
  find_other y ne = look_up-changed_there (λ (r : BookRider). r.id) x y (with_status status) (λ r. refl) riders ne

  pub find_same : (r : BookRider) → find_rider x riders ≡ Some r → find_rider x changed ≡ Some (with_status status r)
  find_same r e = look_up-changed_here (λ (r : BookRider). r.id) x (with_status status) (λ r. refl) riders ∙ ap (option_map (with_status status)) e

  pub same_party : (stop : PlannedStop) → party_at changed stop ≡ party_at riders stop
  same_party stop = search (rules, cases_eq, nat_tests, look_up-changed_here, find_other)

-- seats depend on the parties alone, and more room is room enough
pub seats_by_party : (riders others : List BookRider) (room more : ℕ) → room ≤ more → (stops : List PlannedStop) →
    AllByRecursion (λ stop. party_at others stop ≡ party_at riders stop) stops
    → HasSeatsFor riders room stops → HasSeatsFor others more stops
seats_by_party riders others room more le [] same has = tt
seats_by_party riders others room more le (stop ∷ stops) same has =
    let on : seats_after riders stop room ≤ seats_after others stop more = grind (arith, nat_tests, same.0) in (
      λ pick. omega (arith, has.0 pick, same.0),
      seats_by_party riders others (seats_after riders stop room) (seats_after others stop more) on stops same.1
          has.1,
    )

-- a rider's calls at the front of the stops
pub calls_own : (x : ℕ) (stop : PlannedStop) (stops : List PlannedStop) → stop.rider ≡ x → calls_of x (stop ∷ stops) ≡ stop.pick ∷ calls_of x stops
calls_own x stop stops e = grind (arith, nat_tests)

pub calls_other : (x : ℕ) (stop : PlannedStop) (stops : List PlannedStop) → (stop.rider ≡ x → ⊥) → calls_of x (stop ∷ stops) ≡ calls_of x stops
calls_other x stop stops ne = grind (arith, nat_tests)

-- where none of a rider's calls is a pickup, none of the stops is a pickup of theirs
pub no_pickup : (x : ℕ) (stops : List PlannedStop) → AllByRecursion (λ b. b ≡ false) (calls_of x stops) →
    AllByRecursion (λ (s : PlannedStop). s.rider ≡ x → s.pick ≡ false) stops
no_pickup x [] all = tt
no_pickup x (stop ∷ stops) all = grind (arith, nat_tests, no_pickup x stops)

pub no_stop : (x : ℕ) (stops : List PlannedStop) → calls_of x stops ≡ [] → AllByRecursion (λ (s : PlannedStop). s.rider ≡ x → ⊥) stops
no_stop x [] none = tt
no_stop x (stop ∷ stops) none = grind (arith, nat_tests, no_stop x stops)

-- a status of no vehicle, or of another one
pub of_one : (v w : ℕ) (status : Status) → IsOfVehicle v status → IsOfVehicle w status → v ≡ w
of_one v w status h k = grind arith

-- without calls of their own a rider of another vehicle asks for none
pub calls_of_others : (w : ℕ) (status : Status) (calls : List Bool) → (IsOfVehicle w status → ⊥) → HasCalls w status calls
calls_of_others w status calls not = grind arith

-- a right stop is a right pickup or a right drop-off
pub right_cases : (settings : Settings) (roads : Roads) (riders : List BookRider) (w : ℕ) (stop : PlannedStop) → IsRightStop settings roads riders w stop
    → ((stop.pick ≡ true) × IsRightPickup settings.wait riders w stop) ⊎ ((stop.pick ≡ false) × IsRightDropoff roads settings.delay riders w stop)
right_cases settings roads riders w stop right = search rules

-- a right stop is of a rider of the vehicle
pub stop_of_vehicle : (settings : Settings) (roads : Roads) (riders : List BookRider) (w : ℕ) (stop : PlannedStop) → IsRightStop settings roads riders w stop
    → (r : BookRider) × (find_rider stop.rider riders ≡ Some r) × IsOfVehicle w r.status
stop_of_vehicle settings roads riders w stop right = search rules

-- a right stop stays so where its rider is found as before
pub right_elsewhere : (settings : Settings) (roads : Roads) (riders others : List BookRider) (w : ℕ) (stop : PlannedStop) →
    find_rider stop.rider others ≡ find_rider stop.rider riders
    → IsRightStop settings roads riders w stop → IsRightStop settings roads others w stop
right_elsewhere settings roads riders others w stop same right = search rules

-- a status is of the vehicle, or isn't
pub cases_of : (w : ℕ) (status : Status) → IsOfVehicle w status ⊎ (IsOfVehicle w status → ⊥)
cases_of w (Promised p) = cases_eq p.vehicle w
cases_of w (Aboard u) = cases_eq u w
cases_of w status = inr (λ h. h)

-- a vehicle goes on serving where the riders of its stops are found as before, and nobody else is of the vehicle
pub serves_elsewhere : (settings : Settings) (roads : Roads) (riders others : List BookRider) (w : Vehicle) (free : ℕ) (stops : List PlannedStop)
    → ((x : ℕ) (r : BookRider) → find_rider x riders ≡ Some r → IsOfVehicle w.id r.status → find_rider x others ≡ find_rider x riders)
    → ((x : ℕ) (r : BookRider) → find_rider x others ≡ Some r → IsOfVehicle w.id r.status → find_rider x riders ≡ Some r)
    → IsServing settings roads riders w free stops → IsServing settings roads others w free stops
serves_elsewhere settings roads riders others w free stops there back serves = record {
  reached = serves.reached;
  seats = seats_by_party riders others (w.seats - persons_aboard w) (w.seats - persons_aboard w) (omega arith) stops
      (all_weaker (IsRightStop settings roads riders w.id) (λ stop. party_at others stop ≡ party_at riders stop)
      (λ stop right. ap (λ o. option_map_or (λ (r : BookRider). r.party) o 0) (same stop right)) stops serves.right) serves.seats;
  right = all_weaker (IsRightStop settings roads riders w.id) (IsRightStop settings roads others w.id)
      (λ stop right. right_elsewhere settings roads riders others w.id stop (same stop right) right) stops serves.right;
  calls = λ x r found. by x r found (cases_of w.id r.status);
  few = serves.few;
}
  where
    same : (stop : PlannedStop) → IsRightStop settings roads riders w.id stop → find_rider stop.rider others ≡ find_rider stop.rider riders
    same stop right = let own = stop_of_vehicle settings roads riders w.id stop right in there stop.rider own.0 own.1 own.2

    by : (x : ℕ) (r : BookRider) → find_rider x others ≡ Some r → IsOfVehicle w.id r.status ⊎ (IsOfVehicle w.id r.status → ⊥) →
        HasCalls w.id r.status (calls_of x stops)
    by x r found (inl own) = serves.calls x r (back x r found own)
    by x r found (inr not) = calls_of_others w.id r.status (calls_of x stops) not
