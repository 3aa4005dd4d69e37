-- The trips that a plan gives, and the orders of late vehicles.
use Rattle.std.specs.Prelude.{◌≡◌, ℕ, ◌≤◌, List, [], Option, Some, MatchOption, not, length, map, filter}
use Rattle.plan_rules.specs.Graph.{Graph, choice_at, riders_at, cost_at}
use Rattle.request_book.specs.declared.values.outcome.ChosenTrip.{ChosenTrip}
use Rattle.request_book.specs.declared.values.outcome.LateVehicle.{LateVehicle}
use Rattle.request_book.specs.declared.values.outcome.PlannedStop.{PlannedStop}
use Rattle.stop_orders.specs.task.Settled.{trip_task, vehicle_at}
use Rattle.stop_orders.specs.task.Task.{Serves, IsOrderOf, ReachesAll, order_delay, seconds_of}
use Rattle.stop_orders.specs.declared.task.settled.Settled.{Settled}
use Rattle.stop_orders.specs.declared.task.stop.Stop.{Stop}
use Rattle.dispatch_engine.specs.outcome.Told.{told_stop}
use Rattle.std.specs.List.{AllZip, range_with_len, zip}

-- the vehicle's trip is that of its chosen row, with an order of stops that serves it and whose delay is the row's cost
pub record IsTripOf (points : List ℕ) (tau : ℕ → ℕ → ℕ) (settled : Settled) (graph : Graph) (chosen : List (Option ℕ)) (v : ℕ) (trip : ChosenTrip) : Type 0 where
  pub row : ℕ
  pub chooses : choice_at chosen v ≡ Some row
  pub vehicle : trip.vehicle ≡ (vehicle_at settled v).id
  pub cost : trip.cost ≡ cost_at graph row
  pub stops : List Stop
  pub serves : Serves tau (trip_task settled v (riders_at graph row)) stops
  pub delay : order_delay tau (trip_task settled v (riders_at graph row)) stops ≡ trip.cost
  pub told : trip.stops.items ≡ map (told_stop points settled v (riders_at graph row)) (zip stops (seconds_of tau (trip_task settled v (riders_at graph row)) stops))

-- an order of the passengers that reaches all their places, with the least delay of such orders
pub record IsLateOrder (points : List ℕ) (tau : ℕ → ℕ → ℕ) (settled : Settled) (v delay : ℕ) (lines : List PlannedStop) : Type 0 where
  pub stops : List Stop
  pub order : IsOrderOf (trip_task settled v []) stops
  pub reaches : ReachesAll tau (trip_task settled v []) stops
  pub has_delay : order_delay tau (trip_task settled v []) stops ≡ delay
  pub least : (others : List Stop) → IsOrderOf (trip_task settled v []) others → ReachesAll tau (trip_task settled v []) others
      → delay ≤ order_delay tau (trip_task settled v []) others
  pub told : lines ≡ map (told_stop points settled v []) (zip stops (seconds_of tau (trip_task settled v []) stops))

-- the late vehicle with such an order; without one, and with delay 0, where no order of its passengers reaches all places
pub record IsLate (points : List ℕ) (tau : ℕ → ℕ → ℕ) (settled : Settled) (v : ℕ) (late : LateVehicle) : Type 0 where
  pub vehicle : late.vehicle ≡ (vehicle_at settled v).id
  pub stops : MatchOption late.stops
      (((others : List Stop) → IsOrderOf (trip_task settled v []) others → ReachesAll tau (trip_task settled v []) others → ⊥) × (late.delay ≡ 0))
      (λ lines. IsLateOrder points tau settled v late.delay lines.items)

-- one trip for each vehicle that isn't late, by rising id
abbrev pub AreTrips : List ℕ → (ℕ → ℕ → ℕ) → Settled → Graph → List (Option ℕ) → List ChosenTrip → Type 0
AreTrips points tau settled graph chosen trips =
    AllZip (IsTripOf points tau settled graph chosen) (filter (λ v. not (vehicle_at settled v).late) (range_with_len 0 (length settled.vehicles))) trips

-- one for each late vehicle
abbrev pub AreLate : List ℕ → (ℕ → ℕ → ℕ) → Settled → List LateVehicle → Type 0
AreLate points tau settled late = AllZip (IsLate points tau settled) (filter (λ v. (vehicle_at settled v).late) (range_with_len 0 (length settled.vehicles))) late
