use Rattle.std.specs.Prelude.{ℕ, ◌-◌, false, [], ◌∷◌}
use Rattle.stop_orders.specs.declared.task.settled.Settled.{Settled}
use Rattle.stop_orders.specs.declared.task.settled_vehicle.SettledVehicle.{SettledVehicle}
use Rattle.stop_orders.specs.declared.task.task.Task.{Task}
use Rattle.stop_orders.specs.task.Settled.{CanServe}
use Rattle.stop_orders.specs.task.Task.{persons}

-- what is read where there is no such vehicle
abbrev pub no_vehicle : SettledVehicle
no_vehicle = record { id = 0; start = 0; ready = 0; seats = 0; aboard = record { items = [] }; aboard_ids = record { items = [] }; late = false; held = record { items = [] } }

-- the free seats of the vehicle before its first stop
abbrev pub free_seats : Task → ℕ
free_seats task = task.seats - persons task.aboard.items

-- the vehicle can serve the rider alone
abbrev pub IsRvEdge : (ℕ → ℕ → ℕ) → Settled → ℕ → ℕ → Type 0
IsRvEdge tau settled v r = CanServe 1 tau settled v (r ∷ [])
