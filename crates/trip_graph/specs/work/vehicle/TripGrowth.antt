use Rattle.std.specs.Prelude.{ℕ, ◌<◌, List, [], ◌∷◌, ◌++◌, length, Contains}
use Rattle.pool_base.specs.Times.{point_count, travel_time}
use Rattle.stop_orders.specs.declared.task.leg.Leg.{Leg}
use Rattle.stop_orders.specs.declared.task.task.Task.{Task}
use Rattle.stop_orders.specs.declared.task.settled.Settled.{Settled}
use Rattle.stop_orders.specs.task.Task.{IsLeastDelay}
use Rattle.stop_orders.specs.task.Settled.{CanServe, trip_task}
use Rattle.stop_orders.specs.task.Sound.{IsSound}
use Rattle.trip_graph.specs.declared.vehicle.growth.Growth.{Growth}
use Rattle.trip_graph.specs.work.vehicle.Level.{IsTripRule}

-- the task with one more rider
abbrev pub task_with : Task → Leg → Task
task_with task leg = record task { riders = record { items = task.riders.items ++ leg ∷ [] } }

-- how many riders the batch of the growth has
abbrev pub rider_count : Growth → ℕ
rider_count growth = length growth.settled.now.riders

-- the vehicle of the growth can serve the trip
abbrev pub serves : Growth → List ℕ → Type 0
serves growth trip = CanServe 6 (travel_time growth.times.now) growth.settled.now growth.vehicle trip

-- the task of the vehicle with a trip
abbrev pub task_of_trip : Growth → List ℕ → Task
task_of_trip growth trip = trip_task growth.settled.now growth.vehicle trip

-- the cost is the least delay of the vehicle with the trip
abbrev pub CostsLeast : (ℕ → ℕ → ℕ) → Settled → ℕ → List ℕ → ℕ → Type 0
CostsLeast tau settled vehicle trip cost = IsLeastDelay tau (trip_task settled vehicle trip) cost

-- .. with the vehicle of the growth
abbrev pub costs : Growth → List ℕ → ℕ → Type 0
costs growth trip cost = CostsLeast (travel_time growth.times.now) growth.settled.now growth.vehicle trip cost

-- what growth works on goes together, and obeys the laws on smaller trips and pairs
pub record CanGrow (growth : Growth) : Type 0 where
  pub sound : IsSound 6 (point_count growth.times.now) (travel_time growth.times.now) growth.settled.now
  pub vehicle : growth.vehicle < length growth.settled.now.vehicles
  pub rule : IsTripRule (rider_count growth) (serves growth)
  pub edges : (a b : ℕ) → serves growth (a ∷ b ∷ []) → Contains growth.pairs.now (a, b)
