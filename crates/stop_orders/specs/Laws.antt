use Rattle.std.specs.Prelude.{ℕ, ◌-◌, ◌<◌, ◌≤◌, not, nat_lt, if◌then◌else◌, List, [], ◌∷◌, length, map, filter, remove}
use Rattle.pool_base.specs.TravelTime.{IsTravelTime}
use Rattle.stop_orders.specs.declared.task.stop.Stop.{Stop}
use Rattle.stop_orders.specs.declared.task.stop.Stop.TheVariants.{Pick, Drop, Alight}
use Rattle.stop_orders.specs.declared.task.task.Task.{Task}
use Rattle.stop_orders.specs.declared.task.settled.Settled.{Settled}
use Rattle.stop_orders.specs.task.Order.{is_of_rider, is_of_passenger}
use Rattle.stop_orders.specs.task.Task.{IsTask, IsServable, IsLeastDelay, Serves, order_delay}
use Rattle.stop_orders.specs.task.Settled.{IsTrip, IsRrEdge, trip_task}
use Rattle.stop_orders.specs.task.Sound.{IsSound}

-- the number k when number i is left out: those above it move down
abbrev pub number_without : ℕ → ℕ → ℕ
number_without i k = if nat_lt i k then k - 1 else k

-- a stop when rider i is left out
abbrev pub stop_without_rider : ℕ → Stop → Stop
stop_without_rider i (Pick k) = Pick (number_without i k)
stop_without_rider i (Drop k) = Drop (number_without i k)
stop_without_rider i (Alight k) = Alight k

-- a stop when passenger j is left out
abbrev pub stop_without_passenger : ℕ → Stop → Stop
stop_without_passenger j (Pick k) = Pick k
stop_without_passenger j (Drop k) = Drop k
stop_without_passenger j (Alight k) = Alight (number_without j k)

-- the stops without those of rider i
abbrev pub stops_without_rider : ℕ → List Stop → List Stop
stops_without_rider i stops = map (stop_without_rider i) (filter (λ s. not (is_of_rider i s)) stops)

-- the stops without that of passenger j
abbrev pub stops_without_passenger : ℕ → List Stop → List Stop
stops_without_passenger j stops = map (stop_without_passenger j) (filter (λ s. not (is_of_passenger j s)) stops)

-- the task without rider i
abbrev pub without_rider : ℕ → Task → Task
without_rider i task = record task { riders = record { items = remove task.riders.items i } }

-- the task without passenger j
abbrev pub without_passenger : ℕ → Task → Task
without_passenger j task = record task { aboard = record { items = remove task.aboard.items j } }

-- the smaller task is valid, its order serves it, and has no more delay than the order of the task
pub record StillServes (points : ℕ) (tau : ℕ → ℕ → ℕ) (task smaller : Task) (stops fewer : List Stop) : Type 0 where
  pub valid : IsTask points smaller
  pub serves : Serves tau smaller fewer
  pub delay : order_delay tau smaller fewer ≤ order_delay tau task stops

-- a serving order without a rider's pickup and drop-off serves the task without the rider
abbrev pub RidersCanBeLeftOut : Type 0
RidersCanBeLeftOut = (points : ℕ) (tau : ℕ → ℕ → ℕ) (task : Task) (stops : List Stop) (i : ℕ) → IsTravelTime points tau
    → IsTask points task → i < length task.riders.items → Serves tau task stops
    → StillServes points tau task (without_rider i task) stops (stops_without_rider i stops)

-- a serving order without a passenger's drop-off serves the task without the passenger
abbrev pub PassengersCanBeLeftOut : Type 0
PassengersCanBeLeftOut = (points : ℕ) (tau : ℕ → ℕ → ℕ) (task : Task) (stops : List Stop) (j : ℕ) → IsTravelTime points tau
    → IsTask points task → j < length task.aboard.items → Serves tau task stops
    → StillServes points tau task (without_passenger j task) stops (stops_without_passenger j stops)

-- where a vehicle serves a trip, it serves the trip without one of its riders
abbrev pub SubTripsAreServable : Type 0
SubTripsAreServable = (k points : ℕ) (tau : ℕ → ℕ → ℕ) (settled : Settled) (v : ℕ) (trip : List ℕ) (i : ℕ)
    → IsTravelTime points tau → IsSound k points tau settled → v < length settled.vehicles
    → IsTrip (length settled.riders) trip → length trip ≤ 6 → i < length trip
    → IsServable tau (trip_task settled v trip) → IsServable tau (trip_task settled v (remove trip i))

-- .. at no more delay
abbrev pub SubTripsCostNoMore : Type 0
SubTripsCostNoMore = (k points : ℕ) (tau : ℕ → ℕ → ℕ) (settled : Settled) (v : ℕ) (trip : List ℕ) (i cost less : ℕ)
    → IsTravelTime points tau → IsSound k points tau settled → v < length settled.vehicles
    → IsTrip (length settled.riders) trip → length trip ≤ 6 → i < length trip
    → IsLeastDelay tau (trip_task settled v trip) cost → IsLeastDelay tau (trip_task settled v (remove trip i)) less
    → less ≤ cost

-- where a vehicle serves a trip of two riders, they are an edge between riders
abbrev pub PairsAreEdges : Type 0
PairsAreEdges = (k points : ℕ) (tau : ℕ → ℕ → ℕ) (settled : Settled) (v a b : ℕ)
    → IsTravelTime points tau → IsSound k points tau settled → v < length settled.vehicles
    → IsTrip (length settled.riders) (a ∷ b ∷ [])
    → IsServable tau (trip_task settled v (a ∷ b ∷ [])) → IsRrEdge tau settled a b

-- the delay of a serving order is at most 158,400 seconds: 7,200 for each stop
abbrev pub DelaysAreSmall : Type 0
DelaysAreSmall = (k points : ℕ) (tau : ℕ → ℕ → ℕ) (settled : Settled) (v : ℕ) (trip : List ℕ) (stops : List Stop)
    → IsSound k points tau settled → v < length settled.vehicles
    → IsTrip (length settled.riders) trip → length trip ≤ 6
    → Serves tau (trip_task settled v trip) stops → order_delay tau (trip_task settled v trip) stops ≤ 158400

-- what is sound for trips of some size is sound for larger ones
abbrev pub SoundForLarger : Type 0
SoundForLarger = (k n points : ℕ) (tau : ℕ → ℕ → ℕ) (settled : Settled) → k ≤ n
    → IsSound k points tau settled → IsSound n points tau settled
