use Rattle.std.specs.Prelude.{◌==◌, ℕ, ◌+◌, ◌≤◌, false, List, length, map, min, filter, slice_index_or}
use Rattle.std.specs.Option.{option_map_or}
use Rattle.std.specs.List.{range_with_len}
use Rattle.request_book.specs.declared.values.batch_rider.Rider.{Rider}
use Rattle.stop_orders.specs.declared.task.settled_rider.SettledRider.{SettledRider}
use Rattle.stop_orders.specs.declared.task.settled_vehicle.SettledVehicle.{SettledVehicle}
use Rattle.stop_orders.specs.task.Task.{IsServable}
use Rattle.stop_orders.specs.task.Settled.{no_rider, vehicle_task}
use Rattle.rider_limits.specs.declared.settings.Settings.{Settings}
use Rattle.dispatch_engine.specs.limits.Requests.{request_at}

-- the last second at which a promise and the wait let a rider be picked up
abbrev pub promised_limit : ℕ → Rider → ℕ
promised_limit wait r = option_map_or (λ p. min p.pickup (r.time + wait)) r.promise (r.time + wait)

-- the numbers of the riders whose promise names the vehicle, rising
abbrev pub promised_to : ℕ → List Rider → List ℕ
promised_to id requests = filter (λ k. option_map_or (λ p. p.vehicle == id) (request_at requests k).promise false) (range_with_len 0 (length requests))

-- at most as many riders as a trip may have are promised to the vehicle, and some order serves them all, each by the
-- promised second
pub record IsLive (settings : Settings) (tau : ℕ → ℕ → ℕ) (requests : List Rider) (riders : List SettledRider) (v : SettledVehicle) : Type 0 where
  pub few : length (promised_to v.id requests) ≤ settings.trip
  pub servable : IsServable tau (vehicle_task settings.dwell v
      (map (λ k. record (slice_index_or riders k no_rider).leg { latest_pickup = promised_limit settings.wait (request_at requests k) }) (promised_to v.id requests)))
