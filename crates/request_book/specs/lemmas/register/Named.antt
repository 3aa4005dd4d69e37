use Rattle.std.specs.Prelude.{ℕ, Bool, List, Option, Some, None, count_by, is_some, map, if◌then◌else◌, ◌∷◌, ◌++◌, option_map, nat_le, unwrap_or, []}
use Rattle.request_book.specs.declared.values.promise.Promise.{Promise}
use Rattle.request_book.specs.declared.values.batch_rider.Rider.{Rider}
use Rattle.request_book.specs.declared.values.vehicle.Vehicle.{Vehicle}
use Rattle.request_book.specs.declared.values.rider.BookRider.{BookRider}
use Rattle.request_book.specs.values.Keyed.{look_up}
use Rattle.request_book.specs.values.Rider.{is_active, passenger_of, pool_promise}
use Rattle.request_book.specs.register.Sealing.{after_seal, batch_of}
use Rattle.request_book.specs.lemmas.values.Keyed.{without}
use Rattle.pool_io.specs.Faults.{one_more}
use Rattle.request_book.specs.declared.values.rider.Status.{Status}
use Rattle.request_book.specs.declared.values.rider.Status.TheVariants.{Waiting, Promised}
use Rattle.request_book.specs.declared.values.state.State.{State}
use Rattle.request_book.specs.register.Closing.{Pick}

-- the first pick stop of a rider promises; without one the rider waits
abbrev pub planned_status : List Pick → ℕ → Status
planned_status ps id = unwrap_or (option_map (λ p. Promised p.promise) (look_up (λ p. p.rider) id ps)) Waiting

-- the rider as the snapshot of a batch shows them
abbrev pub shown : BookRider → Option Promise → Rider
shown r promise = record { id = r.id; origin = r.origin; destination = r.destination; time = r.time; party = r.party; promise = promise }

-- how many riders wait or have a promise
abbrev pub pool_count : List BookRider → ℕ
pool_count riders = count_by (λ r. is_active r.status) riders

-- the state after a seal
unfoldable pub sealed_state : ℕ → State → ℕ → State
sealed_state wait s now =
    record { riders = map (after_seal wait now) s.riders; vehicles = s.vehicles; last_seal = Some now; sealed = Some (batch_of wait s now); batches = one_more s.batches }

-- a rider of the pool who asked by now, as a snapshot shows them
abbrev pub asking : ℕ → BookRider → Option Rider
asking now r = if nat_le r.time now then option_map (shown r) (pool_promise r.status) else None

-- the rider is the vehicle's last passenger, and the vehicle is at the rider's origin
abbrev pub takes_in : BookRider → ℕ → Vehicle → Vehicle
takes_in r time v = record v { node = r.origin; time = time; aboard = record { items = v.aboard.items ++ passenger_of r ∷ [] } }

-- the rider leaves the passengers, the others keep their order, and the vehicle is at the rider's destination
abbrev pub lets_out : BookRider → ℕ → Vehicle → Vehicle
lets_out r time v = record v { node = r.destination; time = time; aboard = record { items = without (λ p. p.rider) r.id v.aboard.items } }

-- the rider is one of the snapshot's
abbrev pub in_batch : List Rider → ℕ → Bool
in_batch riders id = is_some (look_up (λ r. r.id) id riders)

-- the vehicle is at a node, at a second
abbrev pub stands_at : ℕ → ℕ → Vehicle → Vehicle
stands_at node time v = record v { node = node; time = time }
