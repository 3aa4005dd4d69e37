use Rattle.std.specs.Prelude.{◌≡◌, ℕ, ◌≤◌, List, ◌++◌, Option, None, Some, length}
use Rattle.stop_orders.specs.declared.task.route.Route.{Route}
use Rattle.stop_orders.specs.declared.task.stop.Stop.{Stop}
use Rattle.stop_orders.specs.declared.task.task.Task.{Task}
use Rattle.stop_orders.specs.lemmas.task.Rest.{Completes}
use Rattle.stop_orders.specs.task.Task.{IsOrderOf, Serves, order_delay}

-- what was found serves, with its delay
abbrev pub IsFound : (ℕ → ℕ → ℕ) → Task → Option Route → Type 0
IsFound tau task None = Unit {0}
IsFound tau task (Some route) = Serves tau task route.stops.items × (route.delay ≡ order_delay tau task route.stops.items)

-- something was found whose delay is no greater than this
abbrev pub NoneBetter : Option Route → ℕ → Type 0
NoneBetter None delay = ⊥
NoneBetter (Some route) delay = route.delay ≤ delay

-- what was found stays as good
abbrev pub StaysGood : Option Route → Option Route → Type 0
StaysGood old new = (delay : ℕ) → NoneBetter old delay → NoneBetter new delay

-- the rests that complete what is done make orders of the stops before them
abbrev pub MakesOrders : Task → ℕ → List Stop → Type 0
MakesOrders task done path =
    (rest : List Stop) → Completes (length task.riders.items) (length task.aboard.items) done rest → IsOrderOf task (path ++ rest)
