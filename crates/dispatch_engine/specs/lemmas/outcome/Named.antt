-- Parts of what is told, as proofs call them.
use Rattle.std.specs.Prelude.{ℕ, List, map}
use Rattle.std.specs.List.{zip}
use Rattle.request_book.specs.declared.values.outcome.PlannedStop.{PlannedStop}
use Rattle.stop_orders.specs.task.Settled.{vehicle_at, trip_task}
use Rattle.stop_orders.specs.task.Task.{seconds_of}
use Rattle.stop_orders.specs.declared.task.settled.Settled.{Settled}
use Rattle.stop_orders.specs.declared.task.stop.Stop.{Stop}
use Rattle.dispatch_engine.specs.outcome.Told.{told_stop}

-- the id of a vehicle
abbrev pub vehicle_id : Settled → ℕ → ℕ
vehicle_id settled v = (vehicle_at settled v).id

-- the stops of a vehicle's order for a trip, each with its second
abbrev pub told_stops : List ℕ → (ℕ → ℕ → ℕ) → Settled → ℕ → List ℕ → List Stop → List PlannedStop
told_stops points tau settled v trip stops = map (told_stop points settled v trip) (zip stops (seconds_of tau (trip_task settled v trip) stops))
