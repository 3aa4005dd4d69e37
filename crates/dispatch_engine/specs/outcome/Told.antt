-- How the numbers of a settled batch are told: vehicles, riders and nodes by the files' ids.
use Rattle.std.specs.Prelude.{ℕ, ◌==◌, true, false, List, Option, map, filter, slice_index}
use Rattle.std.specs.List.{range_with_len}
use Rattle.plan_rules.specs.Graph.{Graph, times_served}
use Rattle.plan_rules.specs.declared.row.TripRow.{TripRow}
use Rattle.request_book.specs.declared.values.outcome.PlannedStop.{PlannedStop}
use Rattle.request_book.specs.declared.values.outcome.TripRowLine.{TripRowLine}
use Rattle.stop_orders.specs.task.Settled.{vehicle_at, rider_at, trip_task}
use Rattle.stop_orders.specs.task.Task.{leg_at}
use Rattle.stop_orders.specs.declared.task.settled.Settled.{Settled}
use Rattle.stop_orders.specs.declared.task.stop.Stop.{Stop}
use Rattle.stop_orders.specs.declared.task.stop.Stop.TheVariants.{Pick, Drop, Alight}

-- the id of a rider
abbrev pub rider_id : Settled → ℕ → ℕ
rider_id settled r = (rider_at settled r).id

-- a row of the trip graph
abbrev pub trip_row_line : Settled → TripRow → TripRowLine
trip_row_line settled row =
    record { vehicle = (vehicle_at settled row.vehicle).id; riders = record { items = map (rider_id settled) row.riders.items }; cost = row.cost }

-- the riders in no chosen row, rising
abbrev pub left_riders : Graph → List (Option ℕ) → List ℕ
left_riders graph chosen = filter (λ r. times_served graph chosen graph.vehicles r == 0) (range_with_len 0 graph.riders)

-- a stop of a vehicle's order for a trip: whom it picks up or drops, at which node, at which second
abbrev pub told_stop : List ℕ → Settled → ℕ → List ℕ → Stop × ℕ → PlannedStop
told_stop points settled v trip (Pick i, second) =
    record { pick = true; rider = rider_id settled (slice_index trip i); node = slice_index points (leg_at (trip_task settled v trip).riders.items i).origin; second = second }
told_stop points settled v trip (Drop i, second) =
    record { pick = false; rider = rider_id settled (slice_index trip i); node = slice_index points (leg_at (trip_task settled v trip).riders.items i).destination; second = second }
told_stop points settled v trip (Alight j, second) =
    record { pick = false; rider = slice_index (vehicle_at settled v).aboard_ids.items j; node = slice_index points (leg_at (vehicle_at settled v).aboard.items j).destination; second = second }
