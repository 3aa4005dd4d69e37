use Rattle.std.specs.Prelude.{◌≡◌, ℕ, ◌<◌, List, All, MatchBool, None, Some, Option, length}
use Rattle.plan_rules.specs.Graph.{choice_at}
use Rattle.plan_rules.specs.declared.row.TripRow.{TripRow}
use Rattle.stop_orders.specs.declared.task.settled.Settled.{Settled}
use Rattle.stop_orders.specs.task.Settled.{CanServe, IsRow, vehicle_at}
use Rattle.trip_graph.specs.batch.Answer.{IsRowWith}

-- each row is a vehicle with a trip of at most so many riders that it can serve, at the least delay, and none is missing
pub record AreRowsOf (most : ℕ) (tau : ℕ → ℕ → ℕ) (settled : Settled) (rows : List TripRow) : Type 0 where
  pub right : All (λ row. IsRow most tau settled row.vehicle row.riders.items row.cost) rows
  pub whole : (v : ℕ) (trip : List ℕ) → CanServe most tau settled v trip → (k : ℕ) × IsRowWith rows v trip k

-- each of the first so many vehicles holds the row of the riders that it keeps, and a late one none
pub record HoldRows (settled : Settled) (vehicles : ℕ) (rows : List TripRow) (held : List (Option ℕ)) : Type 0 where
  pub count : length held ≡ vehicles
  pub each : (v : ℕ) → v < vehicles → MatchBool (vehicle_at settled v).late (choice_at held v ≡ None)
      ((k : ℕ) × (choice_at held v ≡ Some k) × IsRowWith rows v (vehicle_at settled v).held.items k)
