use Rattle.std.specs.Prelude.{◌≡◌, ℕ, All, List, [], Option, None, Some, IfSome}
use Rattle.stop_orders.specs.declared.task.route.Route.{Route}
use Rattle.stop_orders.specs.declared.task.stop.Stop.{Stop}
use Rattle.stop_orders.specs.declared.task.task.Task.{Task}
use Rattle.stop_orders.specs.task.Done.{IsNextStop}
use Rattle.stop_orders.specs.task.Task.{Serves, order_delay}
use Rattle.stop_orders.specs.lemmas.search.Plain.{StaysGood}
use Rattle.stop_orders.specs.declared.search.label.Label.{Label}
use Rattle.stop_orders.specs.work.search.Label.{task_riders, task_passengers, CanVisit, next_label}
use Rattle.stop_orders.specs.work.search.Search.{LeadsTo, IsExhausted, IsTried, IsLabelDone, person_of, IsOnlyStop}

-- a delay that was found, as a route without its stops
abbrev pub route_of : Option ℕ → Option Route
route_of None = None
route_of (Some delay) = Some (record { stops = record { items = [] }; delay = delay })

-- some order that serves has the delay that was found
abbrev pub IsCostFound : (ℕ → ℕ → ℕ) → Task → Option ℕ → Type 0
IsCostFound tau task best = IfSome best (λ delay. (stops : List Stop) × Serves tau task stops × (order_delay tau task stops ≡ delay))

-- no way on from the label by the person's next stop is better than what was found
abbrev pub IsPersonTried : (ℕ → ℕ → ℕ) → Task → Option Route → Label → ℕ → Type 0
IsPersonTried tau task best label person =
    (s : Stop) → IsNextStop (task_riders task) (task_passengers task) label.done s → person_of (task_riders task) s ≡ person → IsTried tau task best label s

-- the label after the person's next stop, which can be served
pub record IsNextOf (tau : ℕ → ℕ → ℕ) (task : Task) (label : Label) (person : ℕ) (next : Label) : Type 0 where
  pub stop : Stop
  pub only : IsOnlyStop (task_riders task) (task_passengers task) label.done person stop
  pub can : CanVisit tau task label stop
  pub is : next ≡ next_label tau task label stop

-- what a search of delays leaves: what was found is some order's, if it was one's before; it is as good as before; and no
-- way on from the label is better
pub record Priced (points : ℕ) (tau : ℕ → ℕ → ℕ) (task : Task) (label : Label) (old new : Option ℕ) (labels : List Label) : Type 0 where
  pub found : (path : List Stop) → LeadsTo tau task path label → IsCostFound tau task old → IsCostFound tau task new
  pub good : StaysGood (route_of old) (route_of new)
  pub exhausted : IsExhausted tau task (route_of new) label
  pub settled : All (IsLabelDone points tau task (route_of new)) labels
