use Rattle.std.specs.Prelude.{◌≡◌, ℕ, suc, ◌<◌, ◌≤◌, List, All, MatchBool, None, Some, length, slice_index_or}
use Rattle.std.specs.declared.cmp.Ordering.TheVariants.{Less}
use Rattle.stop_orders.specs.declared.task.settled.Settled.{Settled}
use Rattle.stop_orders.specs.task.Settled.{CanServe, IsRow, vehicle_at}
use Rattle.trip_graph.specs.pairs.RvGraph.{IsRvGraph}
use Rattle.trip_graph.specs.pairs.RrGraph.{IsRrGraph}
use Rattle.plan_rules.specs.declared.row.TripRow.{TripRow}
use Rattle.plan_rules.specs.Graph.{Graph, no_row, choice_at, row_cmp}
use Rattle.plan_rules.specs.GoodGraph.{IsGoodGraph}
use Rattle.rider_limits.specs.declared.settings.Settings.{Settings}
use Rattle.trip_graph.specs.declared.batch.answer.GraphAnswer.{GraphAnswer}
use Rattle.trip_graph.specs.declared.batch.answer.GraphAnswer.TheVariants.{Graph as Grown, Overflow}

-- the number is that of a row of this vehicle with exactly these riders
pub record IsRowWith (rows : List TripRow) (vehicle : ℕ) (riders : List ℕ) (k : ℕ) : Type 0 where
  pub within : k < length rows
  pub own : (slice_index_or rows k no_row).vehicle ≡ vehicle
  pub trip : (slice_index_or rows k no_row).riders.items ≡ riders

-- the trip graph of the batch: each row is a vehicle with a trip of at most so many riders that it can serve, at the least
-- delay, and none is missing; rows stand in order
pub record IsTripGraphOf (settings : Settings) (tau : ℕ → ℕ → ℕ) (settled : Settled) (graph : Graph) : Type 0 where
  pub vehicle_total : graph.vehicles ≡ length settled.vehicles
  pub rider_total : graph.riders ≡ length settled.riders
  pub left_out : graph.penalty ≡ settings.penalty
  pub right : All (λ row. IsRow settings.trip tau settled row.vehicle row.riders.items row.cost) graph.rows
  pub whole : (v : ℕ) (trip : List ℕ) → CanServe settings.trip tau settled v trip → (k : ℕ) × IsRowWith graph.rows v trip k
  -- a late vehicle holds no row, another one the row of the riders that it keeps
  pub hold : (v : ℕ) → v < length settled.vehicles → MatchBool (vehicle_at settled v).late (choice_at graph.held v ≡ None)
      ((k : ℕ) × (choice_at graph.held v ≡ Some k) × IsRowWith graph.rows v (vehicle_at settled v).held.items k)
  pub few : length graph.rows ≤ settings.pairs
  pub good : IsGoodGraph graph

-- there are more rows than allowed: so many in order, each above the one before it, that none stands twice
pub record HasMoreRows (tau : ℕ → ℕ → ℕ) (settled : Settled) (most allowed : ℕ) : Type 0 where
  pub rows : List TripRow
  pub right : All (λ row. IsRow most tau settled row.vehicle row.riders.items row.cost) rows
  pub order : (k : ℕ) → suc k < length rows → row_cmp (slice_index_or rows k no_row) (slice_index_or rows (suc k) no_row) ≡ Less
  pub more : allowed < length rows

-- either the three graphs of the batch, or more rows than the settings allow
abbrev pub IsAnswer : Settings → (ℕ → ℕ → ℕ) → Settled → GraphAnswer → Type 0
IsAnswer settings tau settled (Grown graph rv rr) = IsTripGraphOf settings tau settled graph × IsRvGraph tau settled rv × IsRrGraph tau settled rr
IsAnswer settings tau settled Overflow = HasMoreRows tau settled settings.trip settings.pairs
