use Rattle.std.specs.Prelude.{map}
use Rattle.stop_orders.specs.declared.task.leg.Leg.{Leg}
use Rattle.stop_orders.specs.declared.task.task.Task.{Task}

-- the leg without a latest drop-off
abbrev pub without_latest : Leg → Leg
without_latest leg = record leg { latest_dropoff = 18446744073709551615 }

-- the task without its passengers' limits
abbrev pub without_limits : Task → Task
without_limits task = record task { aboard = record { items = map without_latest task.aboard.items } }
