use Rattle.std.specs.Prelude.{ℕ, List, ◌++◌, Option, length}
use Rattle.stop_orders.specs.declared.task.route.Route.{Route}
use Rattle.stop_orders.specs.declared.task.stop.Stop.{Stop}
use Rattle.stop_orders.specs.declared.task.task.Task.{Task}
use Rattle.stop_orders.specs.lemmas.task.Rest.{Completes}
use Rattle.stop_orders.specs.task.Task.{Serves, order_delay}
use Rattle.stop_orders.specs.lemmas.search.Plain.{NoneBetter}

-- no serving order that begins with these stops is better than what was found
abbrev pub AllTried : (ℕ → ℕ → ℕ) → Task → ℕ → List Stop → Option Route → Type 0
AllTried tau task done path best =
    (rest : List Stop) → Completes (length task.riders.items) (length task.aboard.items) done rest
    → Serves tau task (path ++ rest) → NoneBetter best (order_delay tau task (path ++ rest))
