-- The step table: how the book answers each command, and what changes. Refusals are tried in the order
-- in which they stand; the first that holds is the reply, and nothing changes.
use Rattle.std.specs.Prelude.{ℕ, ◌==◌, ◌+◌, ◌&&◌, not, List, [], ◌∷◌, ◌++◌, length, map, filter, count_by, None, Some, is_some, nat_le, nat_lt, Result, Ok, Err}
use Rattle.std.specs.Option.{ok_or, option_map_or}
use Rattle.request_book.specs.values.Vehicle.{persons_aboard}
use Rattle.request_book.specs.declared.values.vehicle.Vehicle.{Vehicle}
use Rattle.pool_base.specs.InOrder.{◌>>=◌, refused_where}
use Rattle.request_book.specs.declared.values.outcome.Answer.{Answer}
use Rattle.request_book.specs.declared.values.outcome.Answer.TheVariants.{Overflow, Planned}
use Rattle.request_book.specs.declared.values.command.Command.{Command}
use Rattle.request_book.specs.declared.values.command.Command.TheVariants as command
use Rattle.request_book.specs.declared.values.reply.BookRefusal.{BookRefusal}
use Rattle.request_book.specs.declared.values.reply.BookRefusal.TheVariants.{DuplicateRider, UnknownNode, SamePlace, PoolFull, BookFull, UnknownRider, IsAboard, Ended, UnknownVehicle, TimeBack, NotPromised, VehicleFull, NotAboard, BatchOpen, ClockBack, NotThisBatch}
use Rattle.request_book.specs.declared.values.reply.Reply.{Reply}
use Rattle.request_book.specs.declared.values.reply.Reply.TheVariants.{Accepted, Cancelled, Placed, Picked, Dropped, Sealed, Closed, Refused}
use Rattle.request_book.specs.declared.values.rider.BookRider.{BookRider}
use Rattle.request_book.specs.declared.values.rider.Status.{Status}
use Rattle.request_book.specs.declared.values.rider.Status.TheVariants.{Waiting, Promised, Aboard, Delivered, Cancelled as GivenUp}
use Rattle.request_book.specs.declared.values.state.State.{State}
use Rattle.request_book.specs.values.Keyed.{changed_at}
use Rattle.request_book.specs.values.Rider.{with_status, passenger_of, is_active}
use Rattle.request_book.specs.values.State.{find_rider, find_vehicle}
use Rattle.request_book.specs.register.Sealing.{after_seal, batch_of}
use Rattle.request_book.specs.register.Closing.{after_plan, picks}
use Rattle.pool_io.specs.Faults.{one_more}
use Rattle.road_network.specs.Roads.{has_node}

-- the state with another status of a rider
abbrev pub rider_becomes : State → ℕ → Status → State
rider_becomes s rider status = record s { riders = changed_at (λ r. r.id) rider (with_status status) s.riders }

-- the state with a change of a vehicle
abbrev pub vehicle_becomes : State → ℕ → (Vehicle → Vehicle) → State
vehicle_becomes s vehicle change = record s { vehicles = changed_at (λ v. v.id) vehicle change s.vehicles }

-- nothing, for a rider who waits or has a promise; else that they are aboard or have ended
abbrev pub still_asks : Status → Result (Unit {0}) BookRefusal
still_asks Waiting = Ok tt
still_asks (Promised p) = Ok tt
still_asks (Aboard vehicle) = Err (IsAboard vehicle)
still_asks status = Err (Ended status)

-- a rider asks: added last, waiting
unfoldable pub submit : List ℕ → State → BookRider → Result State BookRefusal
submit nodes s r = do
  _ ← refused_where (is_some (find_rider r.id s.riders)) DuplicateRider
  _ ← refused_where (not (has_node nodes r.origin && has_node nodes r.destination)) UnknownNode
  _ ← refused_where (r.origin == r.destination) SamePlace
  _ ← refused_where (nat_le 1000 (count_by (λ q. is_active q.status) s.riders)) PoolFull
  _ ← refused_where (nat_le 100000 (length s.riders)) BookFull
  Ok (record s { riders = s.riders ++ r ∷ [] })

-- a rider gives up
unfoldable pub cancel : State → ℕ → Result State BookRefusal
cancel s rider = do
  r ← ok_or (find_rider rider s.riders) UnknownRider
  _ ← still_asks r.status
  Ok (rider_becomes s rider GivenUp)

-- a vehicle is at a node, at a second
unfoldable pub report : List ℕ → State → ℕ → ℕ → ℕ → Result State BookRefusal
report nodes s vehicle node time = do
  v ← ok_or (find_vehicle vehicle s.vehicles) UnknownVehicle
  _ ← refused_where (not (has_node nodes node)) UnknownNode
  _ ← refused_where (nat_lt time v.time) (TimeBack v.time)
  Ok (vehicle_becomes s vehicle (λ w. record w { node = node; time = time }))

-- a vehicle picks up the rider who is promised to it, if there are seats for the whole party: the rider is its last
-- passenger, and it is at the rider's origin
unfoldable pub pickup : State → ℕ → ℕ → ℕ → Result State BookRefusal
pickup s vehicle rider time = do
  v ← ok_or (find_vehicle vehicle s.vehicles) UnknownVehicle
  r ← ok_or (find_rider rider s.riders) UnknownRider
  _ ← still_asks r.status
  _ ← elim r.status [ Promised p ↦ refused_where (not (p.vehicle == vehicle)) (NotPromised (Some p.vehicle)) | _ ↦ Err (NotPromised None) ]
  _ ← refused_where (nat_lt time v.time) (TimeBack v.time)
  _ ← refused_where (not (nat_le (persons_aboard v + r.party) v.seats)) VehicleFull
  Ok (vehicle_becomes (rider_becomes s r.id (Aboard vehicle)) vehicle
      (λ w. record w { node = r.origin; time = time; aboard = record { items = w.aboard.items ++ passenger_of r ∷ [] } }))

-- a vehicle drops its passenger: the others keep their order, and it is at the rider's destination
unfoldable pub dropoff : State → ℕ → ℕ → ℕ → Result State BookRefusal
dropoff s vehicle rider time = do
  v ← ok_or (find_vehicle vehicle s.vehicles) UnknownVehicle
  r ← ok_or (find_rider rider s.riders) UnknownRider
  _ ← elim r.status [ Aboard holder ↦ refused_where (not (holder == vehicle)) NotAboard | _ ↦ Err NotAboard ]
  _ ← refused_where (nat_lt time v.time) (TimeBack v.time)
  Ok (vehicle_becomes (rider_becomes s r.id Delivered) vehicle
      (λ w. record w { node = r.destination; time = time; aboard = record { items = filter (λ p. not (p.rider == r.id)) w.aboard.items } }))

-- a batch is sealed: none may be open, and the second isn't below that of the last seal
unfoldable pub seal : ℕ → State → ℕ → Result State BookRefusal
seal wait s now = do
  _ ← option_map_or (λ b. Err (BatchOpen b.number)) s.sealed (Ok (tt {0}))
  _ ← option_map_or (λ last. refused_where (nat_lt now last) (ClockBack last)) s.last_seal (Ok (tt {0}))
  Ok (record s { riders = map (after_seal wait now) s.riders; last_seal = Some now; sealed = Some (batch_of wait s now); batches = one_more s.batches })

-- the sealed batch, if it has this number, is closed; an overflow changes no rider
unfoldable pub close : State → ℕ → Answer → Result State BookRefusal
close s batch answer = do
  b ← ok_or s.sealed (NotThisBatch None)
  _ ← refused_where (not (b.number == batch)) (NotThisBatch (Some b.number))
  Ok (record s { riders = elim answer [ Overflow ↦ s.riders | Planned plan ↦ map (after_plan b.riders (picks plan.chosen)) s.riders ]; sealed = None })

-- a refusal changes nothing; without one these are the new state and the reply
abbrev pub answered : State → Reply → Result State BookRefusal → State × Reply
answered s reply (Ok next) = (next, reply)
answered s reply (Err refusal) = (s, Refused refusal)

-- one step of the book, for the nodes of a network and a longest wait
unfoldable pub step : List ℕ → ℕ → State → Command → State × Reply
step nodes wait s (command.Submit rider origin destination time party) =
    answered s Accepted (submit nodes s (record { id = rider; origin = origin; destination = destination; time = time; party = party; status = Waiting }))
step nodes wait s (command.Cancel rider) = answered s Cancelled (cancel s rider)
step nodes wait s (command.Report vehicle node time) = answered s Placed (report nodes s vehicle node time)
step nodes wait s (command.Pickup vehicle rider time) = answered s Picked (pickup s vehicle rider time)
step nodes wait s (command.Dropoff vehicle rider time) = answered s Dropped (dropoff s vehicle rider time)
step nodes wait s (command.Seal now) = answered s (Sealed (one_more s.batches)) (seal wait s now)
step nodes wait s (command.Close batch outcome) = answered s Closed (close s batch outcome.answer)
