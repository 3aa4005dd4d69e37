use Rattle.std.specs.Prelude.{ℕ, ◌+◌, ◌-◌, ◌<◌, ◌≤◌, Bool, true, false}
use Rattle.pool_base.specs.TravelTime.{never}
use Rattle.stop_orders.specs.declared.task.leg.Leg.{Leg}
use Rattle.stop_orders.specs.declared.task.task.Task.{Task}
use Rattle.stop_orders.specs.task.Task.{leg_at}
use Rattle.stop_orders.specs.task.Done.{has}
use Rattle.stop_orders.specs.lemmas.task.Rest.{sum_below}
use Rattle.stop_orders.specs.declared.search.label.Label.{Label}
use Rattle.stop_orders.specs.work.search.Label.{task_riders, task_passengers}

-- a rider can still be served where the vehicle goes there at once: by whether the pickup and the drop-off are done
abbrev pub CanStill : (ℕ → ℕ → ℕ) → ℕ → Leg → Bool → Bool → ℕ → ℕ → Type 0
CanStill tau dwell leg picked true place free = Unit {0}
CanStill tau dwell leg true false place free = (tau place leg.destination < never) × (free + tau place leg.destination ≤ leg.latest_dropoff)
CanStill tau dwell leg false false place free =
    (tau place leg.origin < never) × (free + tau place leg.origin ≤ leg.latest_pickup)
    × (tau leg.origin leg.destination < never) × (free + tau place leg.origin + dwell + tau leg.origin leg.destination ≤ leg.latest_dropoff)

-- the delay of the rider where the vehicle goes there at once
abbrev pub late_at_once : (ℕ → ℕ → ℕ) → ℕ → Leg → Bool → Bool → ℕ → ℕ → ℕ
late_at_once tau dwell leg picked true place free = 0
late_at_once tau dwell leg true false place free = free + tau place leg.destination - leg.ideal
late_at_once tau dwell leg false false place free = free + tau place leg.origin + dwell + tau leg.origin leg.destination - leg.ideal

abbrev pub RiderCan : (ℕ → ℕ → ℕ) → Task → Label → ℕ → Type 0
RiderCan tau task label i = CanStill tau task.dwell (leg_at task.riders.items i) (has label.done i) (has label.done (6 + i)) label.place label.free

abbrev pub rider_late : (ℕ → ℕ → ℕ) → Task → Label → ℕ → ℕ
rider_late tau task label i = late_at_once tau task.dwell (leg_at task.riders.items i) (has label.done i) (has label.done (6 + i)) label.place label.free

-- a passenger is a rider who was picked up
abbrev pub PassengerCan : (ℕ → ℕ → ℕ) → Task → Label → ℕ → Type 0
PassengerCan tau task label j = CanStill tau task.dwell (leg_at task.aboard.items j) true (has label.done (12 + j)) label.place label.free

abbrev pub passenger_late : (ℕ → ℕ → ℕ) → Task → Label → ℕ → ℕ
passenger_late tau task label j = late_at_once tau task.dwell (leg_at task.aboard.items j) true (has label.done (12 + j)) label.place label.free

-- the sum of those delays: no way on has less
abbrev pub least_ahead : (ℕ → ℕ → ℕ) → Task → Label → ℕ
least_ahead tau task label = sum_below (rider_late tau task label) (task_riders task) + sum_below (passenger_late tau task label) (task_passengers task)
