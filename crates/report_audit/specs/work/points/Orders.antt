-- Ids by which riders and passengers are told apart.
use Rattle.std.specs.Prelude.{◌≡◌, ℕ, ◌<◌, List, [], length, slice_index}
use Rattle.dispatch_engine.specs.outcome.Told.{rider_id}
use Rattle.stop_orders.specs.task.Settled.{vehicle_at, trip_task}
use Rattle.stop_orders.specs.task.Task.{IsOrderOf, ReachesAll}
use Rattle.stop_orders.specs.declared.task.settled.Settled.{Settled}
use Rattle.stop_orders.specs.declared.task.stop.Stop.{Stop}

-- no two riders of the batch have one id, nor two passengers of a vehicle, nor a rider and a passenger
pub record HasOwnIds (settled : Settled) : Type 0 where
  pub riders : (r s : ℕ) → r < length settled.riders → s < length settled.riders → rider_id settled r ≡ rider_id settled s → r ≡ s
  pub counts : (v : ℕ) → v < length settled.vehicles → length (vehicle_at settled v).aboard_ids.items ≡ length (vehicle_at settled v).aboard.items
  pub passengers : (v i j : ℕ) → v < length settled.vehicles → i < length (vehicle_at settled v).aboard_ids.items → j < length (vehicle_at settled v).aboard_ids.items
      → slice_index (vehicle_at settled v).aboard_ids.items i ≡ slice_index (vehicle_at settled v).aboard_ids.items j → i ≡ j
  pub apart : (v r j : ℕ) → v < length settled.vehicles → r < length settled.riders → j < length (vehicle_at settled v).aboard_ids.items
      → rider_id settled r ≡ slice_index (vehicle_at settled v).aboard_ids.items j → ⊥

-- no order of the vehicle's passengers reaches all their places
abbrev pub HasNoOrder : (ℕ → ℕ → ℕ) → Settled → ℕ → Type 0
HasNoOrder tau settled v =
    (others : List Stop) → IsOrderOf (trip_task settled v []) others → ReachesAll tau (trip_task settled v []) others → ⊥
