-- The row of which a trip tells.
use Rattle.std.specs.Prelude.{◌≡◌, ℕ, ◌≤◌, List, Option, map}
use Rattle.dispatch_engine.specs.outcome.Told.{rider_id, left_riders}
use Rattle.dispatch_engine.specs.lemmas.outcome.Named.{vehicle_id, told_stops}
use Rattle.dispatch_engine.specs.outcome.Trips.{AreTrips}
use Rattle.plan_rules.specs.Graph.{Graph, riders_at, cost_at}
use Rattle.plan_rules.specs.Plan.{IsPlan, IsLawful, cost_of}
use Rattle.request_book.specs.declared.values.outcome.ChosenTrip.{ChosenTrip}
use Rattle.request_book.specs.declared.values.outcome.Planned.{Planned}
use Rattle.stop_orders.specs.task.Settled.{trip_task}
use Rattle.stop_orders.specs.task.Task.{Serves, IsOrderOf, ReachesAll, order_delay}
use Rattle.stop_orders.specs.declared.task.settled.Settled.{Settled}
use Rattle.stop_orders.specs.declared.task.stop.Stop.{Stop}
use Rattle.stop_orders.specs.declared.task.task.Task.{Task}

-- the trip is the vehicle's, has the row's cost, and its stops are an order that serves the row's riders at it
pub record TellsRow (points : List ℕ) (tau : ℕ → ℕ → ℕ) (settled : Settled) (graph : Graph) (v row : ℕ) (trip : ChosenTrip) : Type 0 where
  pub vehicle : trip.vehicle ≡ vehicle_id settled v
  pub cost : trip.cost ≡ cost_at graph row
  pub stops : List Stop
  pub serves : Serves tau (trip_task settled v (riders_at graph row)) stops
  pub delay : order_delay tau (trip_task settled v (riders_at graph row)) stops ≡ trip.cost
  pub told : trip.stops.items ≡ told_stops points tau settled v (riders_at graph row) stops

-- no order of the task that reaches all its places has less delay
abbrev pub IsLeast : (ℕ → ℕ → ℕ) → Task → ℕ → Type 0
IsLeast tau task delay = (others : List Stop) → IsOrderOf task others → ReachesAll tau task others → delay ≤ order_delay tau task others

-- each vehicle that isn't late has a trip, that of the row of its own that this plan alone gives it
pub record GivesTrips (points : List ℕ) (tau : ℕ → ℕ → ℕ) (settled : Settled) (graph : Graph) (chosen : List (Option ℕ)) (trips : List ChosenTrip) : Type 0 where
  pub plan : IsPlan graph chosen
  pub trips_given : AreTrips points tau settled graph chosen trips
  pub only : (other : List (Option ℕ)) → IsPlan graph other → AreTrips points tau settled graph other trips → chosen ≡ other

-- the plan is lawful, costs what is told, and leaves out whom it is told to
abbrev pub TellsPlan : Settled → Graph → List (Option ℕ) → Planned → Type 0
TellsPlan settled graph chosen planned = IsLawful graph chosen × (planned.cost ≡ cost_of graph chosen) × (planned.left ≡ map (rider_id settled) (left_riders graph chosen))
