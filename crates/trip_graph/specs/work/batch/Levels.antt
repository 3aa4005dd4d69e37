use Rattle.std.specs.Prelude.{◌≡◌, ℕ, ◌+◌, ◌<◌, ◌≤◌, List, [], length, take, slice_index_or}
use Rattle.std.specs.List.{sum_by}
use Rattle.stop_orders.specs.declared.task.settled.Settled.{Settled}
use Rattle.stop_orders.specs.task.Settled.{IsTrip, IsRow, trip_task}
use Rattle.stop_orders.specs.task.Task.{IsServable}
use Rattle.plan_rules.specs.declared.row.TripRow.{TripRow}
use Rattle.plan_rules.specs.Graph.{no_row}
use Rattle.trip_graph.specs.declared.vehicle.trip_of.TripOf.{TripOf}
use Rattle.trip_graph.specs.vehicle.Rows.{AreSomeRows, AreRowsOfSize}
use Rattle.trip_graph.specs.batch.Answer.{IsRowWith}

-- how many rows the lists have together
abbrev pub row_total : List (List TripOf) → ℕ
row_total lists = sum_by (λ rows. length rows) lists

-- how many rows the levels have together
abbrev pub level_total : List (List (List TripOf)) → ℕ
level_total levels = sum_by row_total levels

-- how many rows the first vehicles have in all levels
abbrev pub total_upto : List (List (List TripOf)) → ℕ → ℕ
total_upto levels vehicles = sum_by (λ lists. row_total (take vehicles lists)) levels

-- the rows of this size of the first vehicles, a list for each
pub record AreLevelsUpTo (tau : ℕ → ℕ → ℕ) (settled : Settled) (size count : ℕ) (lists : List (List TripOf)) : Type 0 where
  pub total : length lists ≡ count
  pub each : (v : ℕ) → v < count → AreRowsOfSize tau settled v size (slice_index_or lists v [])

-- the vehicles have more rows of this size than there is room for
pub record HasMoreOfSize (tau : ℕ → ℕ → ℕ) (settled : Settled) (size room : ℕ) : Type 0 where
  pub lists : List (List TripOf)
  pub few : length lists ≤ length settled.vehicles
  pub each : (v : ℕ) → v < length lists → AreSomeRows tau settled v (λ n. n ≡ size) (slice_index_or lists v [])
  pub more : room < row_total lists

-- the rows of all vehicles of the first sizes, a level for each size from 0 on
pub record AreLevels (tau : ℕ → ℕ → ℕ) (settled : Settled) (sizes : ℕ) (levels : List (List (List TripOf))) : Type 0 where
  pub count : length levels ≡ sizes
  pub each : (k : ℕ) → k < sizes → AreLevelsUpTo tau settled k (length settled.vehicles) (slice_index_or levels k [])

-- for each size up to the most, and each vehicle, there are some rows
pub record AreSomeLevels (tau : ℕ → ℕ → ℕ) (settled : Settled) (most : ℕ) (levels : List (List (List TripOf))) : Type 0 where
  pub sizes : length levels ≤ most + 1
  pub few : (k : ℕ) → k < length levels → length (slice_index_or levels k []) ≤ length settled.vehicles
  pub each : (k v : ℕ) → k < length levels → v < length (slice_index_or levels k []) → AreSomeRows tau settled v (λ n. n ≡ k) (slice_index_or (slice_index_or levels k []) v [])

-- the rows are the trips of at most so many riders that the first vehicles can serve, at their least delays
pub record AreRowsUpTo (most : ℕ) (tau : ℕ → ℕ → ℕ) (settled : Settled) (vehicles : ℕ) (rows : List TripRow) : Type 0 where
  pub right : (k : ℕ) → k < length rows → IsRow most tau settled (slice_index_or rows k no_row).vehicle (slice_index_or rows k no_row).riders.items (slice_index_or rows k no_row).cost
  pub below : (k : ℕ) → k < length rows → (slice_index_or rows k no_row).vehicle < vehicles
  pub whole : (v : ℕ) (trip : List ℕ) → v < vehicles → IsTrip (length settled.riders) trip → length trip ≤ most → IsServable tau (trip_task settled v trip)
      → (k : ℕ) × IsRowWith rows v trip k
