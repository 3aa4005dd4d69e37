-- The step table as the register works it: each command's refusals as a list of those that hold, tried in its order.
-- `step-table` (proofs/lemmas/register/StepTable) says that it is the step table.
use Rattle.std.specs.Prelude.{ℕ, List, [], ◌∷◌, ◌++◌, Option, None, Some}
use Rattle.request_book.specs.values.Batch.{Batch}
use Rattle.request_book.specs.declared.values.outcome.Answer.{Answer}
use Rattle.request_book.specs.declared.values.command.Command.{Command}
use Rattle.request_book.specs.declared.values.command.Command.TheVariants.{Submit, Cancel, Report, Pickup, Dropoff, Seal, Close}
use Rattle.request_book.specs.declared.values.reply.BookRefusal.{BookRefusal}
use Rattle.request_book.specs.declared.values.reply.Reply.{Reply}
use Rattle.request_book.specs.declared.values.reply.Reply.TheVariants.{Accepted, Cancelled, Placed, Picked, Dropped, Sealed, Closed, Refused}
use Rattle.request_book.specs.declared.values.rider.BookRider.{BookRider}
use Rattle.request_book.specs.declared.values.rider.Status.TheVariants.{Waiting, Aboard, Delivered, Cancelled as GivenUp}
use Rattle.request_book.specs.declared.values.state.State.{State}
use Rattle.request_book.specs.values.State.{find_rider, find_vehicle}
use Rattle.request_book.specs.lemmas.register.Refusals.{first_of, duplicate_rider, unknown_node, same_place, pool_full, book_full, unknown_rider, is_aboard, has_ended, unknown_vehicle, time_back, not_promised, vehicle_full, not_aboard, batch_open, clock_back, not_this_batch}
use Rattle.request_book.specs.lemmas.register.Named.{sealed_state, stands_at, takes_in, lets_out}
use Rattle.pool_io.specs.Faults.{one_more}
use Rattle.request_book.specs.lemmas.register.Closing.{closed_state}
use Rattle.request_book.specs.register.Step.{rider_becomes, vehicle_becomes}

-- a refusal changes nothing; without one the reply and the new state are these
abbrev pub answer : State → Option BookRefusal → Reply → State → State × Reply
answer s (Some refusal) reply next = (s, Refused refusal)
answer s None reply next = (next, reply)

-- the change of a pickup, and of a drop-off
abbrev pub picked_up : State → Option BookRider → ℕ → ℕ → State
picked_up s None vehicle time = s
picked_up s (Some r) vehicle time = vehicle_becomes (rider_becomes s r.id (Aboard vehicle)) vehicle (takes_in r time)

abbrev pub dropped_off : State → Option BookRider → ℕ → ℕ → State
dropped_off s None vehicle time = s
dropped_off s (Some r) vehicle time = vehicle_becomes (rider_becomes s r.id Delivered) vehicle (lets_out r time)

-- a rider asks: added last, waiting
abbrev pub submit_refusal : List ℕ → State → BookRider → Option BookRefusal
submit_refusal nodes s r = first_of (duplicate_rider (find_rider r.id s.riders) ∷ unknown_node nodes r.origin ∷ unknown_node nodes r.destination ∷ same_place r.origin r.destination ∷ pool_full s.riders ∷ book_full s.riders ∷ [])

unfoldable pub submit_step : List ℕ → State → BookRider → State × Reply
submit_step nodes s r = answer s (submit_refusal nodes s r) Accepted (record s { riders = s.riders ++ r ∷ [] })

-- a rider gives up
unfoldable pub cancel_step : State → ℕ → State × Reply
cancel_step s rider =
    let r = find_rider rider s.riders in
    answer s (first_of (unknown_rider r ∷ is_aboard r ∷ has_ended r ∷ []))
    Cancelled (rider_becomes s rider GivenUp)

-- a vehicle is at a node
unfoldable pub report_step : List ℕ → State → ℕ → ℕ → ℕ → State × Reply
report_step nodes s vehicle node time =
    let v = find_vehicle vehicle s.vehicles in
    answer s (first_of (unknown_vehicle v ∷ unknown_node nodes node ∷ time_back v time ∷ []))
    Placed (vehicle_becomes s vehicle (stands_at node time))

-- a vehicle picks up the rider who is promised to it
unfoldable pub pickup_step : State → ℕ → ℕ → ℕ → State × Reply
pickup_step s vehicle rider time =
    let v = find_vehicle vehicle s.vehicles in
    let r = find_rider rider s.riders in
    answer s (first_of (unknown_vehicle v ∷ unknown_rider r ∷ is_aboard r ∷ has_ended r ∷ not_promised r vehicle ∷ time_back v time ∷ vehicle_full v r ∷ []))
    Picked (picked_up s r vehicle time)

-- a vehicle drops its passenger
unfoldable pub dropoff_step : State → ℕ → ℕ → ℕ → State × Reply
dropoff_step s vehicle rider time =
    let v = find_vehicle vehicle s.vehicles in
    let r = find_rider rider s.riders in
    answer s (first_of (unknown_vehicle v ∷ unknown_rider r ∷ not_aboard r vehicle ∷ time_back v time ∷ []))
    Dropped (dropped_off s r vehicle time)

-- why a seal is refused
abbrev pub seal_refusal : State → ℕ → Option BookRefusal
seal_refusal s now = first_of (batch_open s.sealed ∷ clock_back s.last_seal now ∷ [])

-- a batch is sealed
unfoldable pub seal_step : ℕ → State → ℕ → State × Reply
seal_step wait s now = answer s (seal_refusal s now) (Sealed (one_more s.batches)) (sealed_state wait s now)

-- the sealed batch is closed
unfoldable pub close_step : State → ℕ → Answer → State × Reply
close_step s batch outcome = answer s (first_of (not_this_batch s.sealed batch ∷ [])) Closed (closed_state s outcome)

-- one step of the book, for the nodes of a network and a longest wait
unfoldable pub table_step : List ℕ → ℕ → State → Command → State × Reply
table_step nodes wait s (Submit rider origin destination time party) =
    submit_step nodes s (record { id = rider; origin = origin; destination = destination; time = time; party = party; status = Waiting })
table_step nodes wait s (Cancel rider) = cancel_step s rider
table_step nodes wait s (Report vehicle node time) = report_step nodes s vehicle node time
table_step nodes wait s (Pickup vehicle rider time) = pickup_step s vehicle rider time
table_step nodes wait s (Dropoff vehicle rider time) = dropoff_step s vehicle rider time
table_step nodes wait s (Seal now) = seal_step wait s now
table_step nodes wait s (Close batch outcome) = close_step s batch outcome.answer

-- the batch that a seal would put into `sealed`; none where it is refused
abbrev pub batch_unless : Option BookRefusal → Batch → Option Batch
batch_unless (Some refusal) batch = None
batch_unless None batch = Some batch
