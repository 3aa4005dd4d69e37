-- The refusals of the book, each exactly where it holds. What a rider or a vehicle that isn't there
-- would answer is left to the refusal that says so.
use Rattle.std.specs.Prelude.{ℕ, ◌==◌, ◌+◌, List, [], ◌∷◌, length, Option, None, Some, option_map, option_and_then, nat_lt, nat_le, if◌then◌else◌}
use Rattle.request_book.specs.values.Batch.{Batch}
use Rattle.request_book.specs.values.Vehicle.{persons_aboard}
use Rattle.request_book.specs.declared.values.vehicle.Vehicle.{Vehicle}
use Rattle.request_book.specs.declared.values.reply.BookRefusal.{BookRefusal}
use Rattle.request_book.specs.declared.values.reply.BookRefusal.TheVariants.{DuplicateRider, UnknownNode, SamePlace, PoolFull, BookFull, UnknownRider, IsAboard, Ended, UnknownVehicle, TimeBack, NotPromised, VehicleFull, NotAboard, BatchOpen, ClockBack, NotThisBatch}
use Rattle.request_book.specs.declared.values.rider.BookRider.{BookRider}
use Rattle.request_book.specs.declared.values.rider.Status.{Status}
use Rattle.request_book.specs.declared.values.rider.Status.TheVariants.{Waiting, Promised, Aboard, Cancelled, Delivered, Expired}
use Rattle.request_book.specs.lemmas.register.Named.{pool_count}
use Rattle.road_network.specs.Roads.{has_node}

-- the first refusal of a list of those that hold
unfoldable pub first_of : List (Option BookRefusal) → Option BookRefusal
first_of [] = None
first_of (Some refusal ∷ rest) = Some refusal
first_of (None ∷ rest) = first_of rest

-- a rider of this id is in the book, of any status
abbrev pub duplicate_rider : Option BookRider → Option BookRefusal
duplicate_rider (Some r) = Some DuplicateRider
duplicate_rider None = None

-- the node isn't in the network
abbrev pub unknown_node : List ℕ → ℕ → Option BookRefusal
unknown_node nodes node = if has_node nodes node then None else Some UnknownNode

-- origin and destination are the same node
abbrev pub same_place : ℕ → ℕ → Option BookRefusal
same_place origin destination = if origin == destination then Some SamePlace else None

-- 1,000 riders wait or have a promise
abbrev pub pool_full : List BookRider → Option BookRefusal
pool_full riders = if nat_le 1000 (pool_count riders) then Some PoolFull else None

-- the book has 100,000 riders
abbrev pub book_full : List BookRider → Option BookRefusal
book_full riders = if nat_le 100000 (length riders) then Some BookFull else None

-- no rider of this id is in the book
abbrev pub unknown_rider : Option BookRider → Option BookRefusal
unknown_rider (Some r) = None
unknown_rider None = Some UnknownRider

-- the rider is aboard of a vehicle
abbrev pub aboard_refusal : Status → Option BookRefusal
aboard_refusal (Aboard v) = Some (IsAboard v)
aboard_refusal _ = None

-- the same of the rider who was found
abbrev pub is_aboard : Option BookRider → Option BookRefusal
is_aboard r = option_and_then (λ r. aboard_refusal r.status) r

-- the rider is cancelled, delivered or expired
abbrev pub ended_refusal : Status → Option BookRefusal
ended_refusal Cancelled = Some (Ended Cancelled)
ended_refusal Delivered = Some (Ended Delivered)
ended_refusal Expired = Some (Ended Expired)
ended_refusal _ = None

-- the same of the rider who was found
abbrev pub has_ended : Option BookRider → Option BookRefusal
has_ended r = option_and_then (λ r. ended_refusal r.status) r

-- no vehicle of this id is in the fleet
abbrev pub unknown_vehicle : Option Vehicle → Option BookRefusal
unknown_vehicle (Some v) = None
unknown_vehicle None = Some UnknownVehicle

-- the second is below the vehicle's last one
abbrev pub time_back : Option Vehicle → ℕ → Option BookRefusal
time_back v time = option_and_then (λ v. if nat_lt time v.time then Some (TimeBack v.time) else None) v

-- the rider waits, or is promised to another vehicle, the holder
abbrev pub promise_refusal : ℕ → Status → Option BookRefusal
promise_refusal vehicle Waiting = Some (NotPromised None)
promise_refusal vehicle (Promised p) = if p.vehicle == vehicle then None else Some (NotPromised (Some p.vehicle))
promise_refusal vehicle _ = None

-- the same of the rider who was found
abbrev pub not_promised : Option BookRider → ℕ → Option BookRefusal
not_promised r vehicle = option_and_then (λ r. promise_refusal vehicle r.status) r

-- the rider's party doesn't fit into the seats beside the persons aboard
abbrev pub vehicle_full : Option Vehicle → Option BookRider → Option BookRefusal
vehicle_full v r = option_and_then (λ v. option_and_then (λ r. if nat_le (persons_aboard v + r.party) v.seats then None else Some VehicleFull) r) v

-- the rider isn't aboard of this vehicle
abbrev pub seat_refusal : ℕ → Status → Option BookRefusal
seat_refusal vehicle (Aboard v) = if v == vehicle then None else Some NotAboard
seat_refusal vehicle _ = Some NotAboard

-- the same of the rider who was found
abbrev pub not_aboard : Option BookRider → ℕ → Option BookRefusal
not_aboard r vehicle = option_and_then (λ r. seat_refusal vehicle r.status) r

-- a batch is sealed and not closed
abbrev pub batch_open : Option Batch → Option BookRefusal
batch_open sealed = option_map (λ b. BatchOpen b.number) sealed

-- the second is below that of the last seal
abbrev pub clock_back : Option ℕ → ℕ → Option BookRefusal
clock_back last now = option_and_then (λ last. if nat_lt now last then Some (ClockBack last) else None) last

-- no batch is sealed, or one of another number
abbrev pub not_this_batch : Option Batch → ℕ → Option BookRefusal
not_this_batch None batch = Some (NotThisBatch None)
not_this_batch (Some b) batch = if b.number == batch then None else Some (NotThisBatch (Some b.number))
