use Rattle.std.specs.Prelude.{◌≡◌, ℕ, ◌+◌, ◌<◌, ◌≤◌, List, [], All, Contains, MatchBool, length, map}
use Rattle.std.specs.List.Sorted.{IsStrictlyIncreasing}
use Rattle.pool_base.specs.TravelTime.{longest}
use Rattle.stop_orders.specs.declared.task.leg.Leg.{Leg}
use Rattle.stop_orders.specs.declared.task.settled.Settled.{Settled}
use Rattle.stop_orders.specs.task.Task.{IsTask, IsServable}
use Rattle.stop_orders.specs.task.Settled.{vehicle_at, greatest, IsTrip, trip_task}

-- no latest drop-off is more than 7,200 seconds after its ideal
abbrev pub IsShort : Leg → Type 0
IsShort leg = leg.latest_dropoff ≤ leg.ideal + 7200

-- what is settled of a vehicle, for trips of at most k riders
pub record IsSoundVehicle (k points : ℕ) (tau : ℕ → ℕ → ℕ) (settled : Settled) (v : ℕ) : Type 0 where
  pub ready : settled.now ≤ (vehicle_at settled v).ready
  pub tasks : (trip : List ℕ) → IsTrip (length settled.riders) trip → length trip ≤ 6 → IsTask points (trip_task settled v trip)
  pub short : All IsShort (vehicle_at settled v).aboard.items
  -- late exactly where no order serves the passengers alone
  pub late : MatchBool (vehicle_at settled v).late (IsServable tau (trip_task settled v []) → ⊥) (IsServable tau (trip_task settled v []))
  pub held : IsTrip (length settled.riders) (vehicle_at settled v).held.items
  pub held_size : length (vehicle_at settled v).held.items ≤ k
  pub held_servable : 0 < length (vehicle_at settled v).held.items → IsServable tau (trip_task settled v (vehicle_at settled v).held.items)

-- a batch whose limits are settled, for trips of at most k riders and a table of travel times
pub record IsSound (k points : ℕ) (tau : ℕ → ℕ → ℕ) (settled : Settled) : Type 0 where
  pub vehicle_count : length settled.vehicles ≤ 500
  pub rider_count : length settled.riders ≤ 1000
  pub vehicle_ids : IsStrictlyIncreasing (map (λ v. v.id) settled.vehicles)
  pub rider_ids : IsStrictlyIncreasing (map (λ r. r.id) settled.riders)
  pub now : settled.now ≤ longest
  pub most_seats : settled.most_seats ≡ greatest (map (λ v. v.seats) settled.vehicles)
  pub short : All (λ r. IsShort r.leg) settled.riders
  pub each : (v : ℕ) → v < length settled.vehicles → IsSoundVehicle k points tau settled v
  -- no rider is held twice
  pub apart : (v w r : ℕ) → v < length settled.vehicles → w < length settled.vehicles
      → Contains (vehicle_at settled v).held.items r → Contains (vehicle_at settled w).held.items r → v ≡ w
