use Rattle.std.specs.Prelude.{ℕ, ◌-◌, nat_lt, if◌then◌else◌}
use Rattle.stop_orders.specs.declared.task.stop.Stop.{Stop}
use Rattle.stop_orders.specs.declared.task.stop.Stop.TheVariants.{Pick, Drop, Alight}

-- the stop with this bit
abbrev pub stop_with : ℕ → Stop
stop_with k = if nat_lt k 6 then Pick k else (if nat_lt k 12 then Drop (k - 6) else Alight (k - 12))
