use Rattle.std.proofs.Common.{◌≡◌, ℕ, List, Bool, Option, Some, None}
use Rattle.dispatch_engine.proofs.Common.{IsServable, Serves}
use Rattle.std.specs.Bool.{MatchBool}
use Rattle.std.specs.Option.{IfSome, IfNone, is_some}
use Rattle.stop_orders.specs.declared.task.stop.Stop.{Stop}
use Rattle.stop_orders.specs.declared.task.task.Task.{Task}
use Rattle.stop_orders.specs.declared.task.route.Route.{Route}

-- the answer of a search says whether some order serves
pub found_serves : (tau : ℕ → ℕ → ℕ) (task : Task) (found : Option Route) (answer : Bool) → answer ≡ is_some found
    → IfSome found (λ route. Serves tau task route.stops.items) → IfNone found ((stops : List Stop) → Serves tau task stops → ⊥)
    → MatchBool answer (IsServable tau task) (IsServable tau task → ⊥)
found_serves tau task None answer is serves none = rw is (λ s. none s.0 s.1)
found_serves tau task (Some route) answer is serves none = rw is (route.stops.items, serves)
