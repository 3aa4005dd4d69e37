-- Parts of promises, as proofs call them.
use Rattle.std.specs.Prelude.{◌≡◌, ◌==◌, ℕ, ◌+◌, ◌<◌, ◌⊎◌, Bool, false, None, List, [], length, map, nat_lt, if◌then◌else◌, slice_index_or, Contains}
use Rattle.std.specs.Option.{option_map_or}
use Rattle.pool_base.specs.TravelTime.{never}
use Rattle.request_book.specs.declared.values.batch_rider.Rider.{Rider}
use Rattle.stop_orders.specs.declared.task.leg.Leg.{Leg}
use Rattle.stop_orders.specs.declared.task.settled_rider.SettledRider.{SettledRider}
use Rattle.stop_orders.specs.declared.task.settled_vehicle.SettledVehicle.{SettledVehicle}
use Rattle.stop_orders.specs.task.Settled.{no_rider}
use Rattle.stop_orders.specs.lemmas.task.Named.{no_vehicle}
use Rattle.rider_limits.specs.declared.settings.Settings.{Settings}
use Rattle.dispatch_engine.specs.limits.Requests.{request_at}
use Rattle.dispatch_engine.specs.limits.Promised.{promised_limit, promised_to, IsLive}

-- what is read where there is no such rider
abbrev pub no_request : Rider
no_request = record { id = 0; origin = 0; destination = 0; time = 0; party = 1; promise = None }

-- when a rider would arrive who left at the second of the request; that second where there is no way
abbrev pub ideal_second : (ℕ → ℕ → ℕ) → ℕ → ℕ → ℕ → ℕ
ideal_second tau time origin destination = if nat_lt (tau origin destination) never then time + tau origin destination else time

-- whether the rider's promise names the vehicle
abbrev pub is_promised_to : ℕ → Rider → Bool
is_promised_to id r = option_map_or (λ p. p.vehicle == id) r.promise false

-- a leg with the pickup that was promised
abbrev pub kept_leg : ℕ → Rider → Leg → Leg
kept_leg wait request leg = record leg { latest_pickup = promised_limit wait request }

-- the legs of some riders, each with the pickup that was promised
abbrev pub kept_legs : ℕ → List Rider → List SettledRider → List ℕ → List Leg
kept_legs wait requests riders trip =
    map (λ k. record (slice_index_or riders k no_rider).leg { latest_pickup = promised_limit wait (request_at requests k) }) trip

-- a live vehicle keeps all riders promised to it, another one none
abbrev pub HoldsPromised : Settings → (ℕ → ℕ → ℕ) → List Rider → List SettledRider → SettledVehicle → Type 0
HoldsPromised settings tau requests riders v =
    (IsLive settings tau requests riders v × (v.held.items ≡ promised_to v.id requests)) ⊎ ((IsLive settings tau requests riders v → ⊥) × (v.held.items ≡ []))

-- one of the vehicles keeps its promise to the rider
abbrev pub IsHeld : List SettledVehicle → ℕ → Type 0
IsHeld vehicles r = (v : ℕ) × (v < length vehicles) × Contains (slice_index_or vehicles v no_vehicle).held.items r
