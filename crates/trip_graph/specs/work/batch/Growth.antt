use Rattle.std.specs.Prelude.{ℕ, ◌<◌, List, Contains, length}
use Rattle.pool_base.specs.Times.{point_count, travel_time}
use Rattle.stop_orders.specs.declared.task.settled.Settled.{Settled}
use Rattle.stop_orders.specs.task.Settled.{IsRrEdge}
use Rattle.stop_orders.specs.task.Sound.{IsSound}
use Rattle.trip_graph.specs.declared.vehicle.trip_of.TripOf.{TripOf}
use Rattle.trip_graph.specs.declared.batch.batch_growth.BatchGrowth.{BatchGrowth}
use Rattle.trip_graph.specs.work.batch.Levels.{AreLevelsUpTo}

-- the travel times of the growth
abbrev pub tau_of : BatchGrowth → ℕ → ℕ → ℕ
tau_of growth = travel_time growth.times.now

-- the batch of the growth
abbrev pub batch_of : BatchGrowth → Settled
batch_of growth = growth.settled.now

-- what growth works on goes together: the batch is sound, and every edge between its riders is one of the pairs
pub record CanGrowBatch (growth : BatchGrowth) : Type 0 where
  pub sound : IsSound 6 (point_count growth.times.now) (tau_of growth) (batch_of growth)
  pub pairs : (a b : ℕ) → IsRrEdge (tau_of growth) (batch_of growth) a b → Contains growth.pairs.now (a, b)

-- .. and the lists are all rows of this size, a list for each vehicle, from which the next size grows
pub record CanGrowLevel (growth : BatchGrowth) (size : ℕ) (below : List (List TripOf)) : Type 0 where
  pub can : CanGrowBatch growth
  pub small : size < 6
  pub rows : AreLevelsUpTo (tau_of growth) (batch_of growth) size (length (batch_of growth).vehicles) below
