-- The notices of a journal.
use Rattle.std.specs.Prelude.{ℕ, Bool, true, false, if◌then◌else◌, ◌==◌, ◌&&◌, not, List, [], ◌∷◌, ◌++◌, Option, map, filter, find, option_map, unwrap_or}
use Rattle.std.specs.Option.{option_map_or}
use Rattle.request_book.specs.values.Batch.{Batch}
use Rattle.request_book.specs.values.Command.{closed_outcome}
use Rattle.request_book.specs.values.Rider.{is_active}
use Rattle.request_book.specs.values.State.{find_rider}
use Rattle.request_book.specs.register.Step.{step}
use Rattle.request_book.specs.declared.values.command.Command.{Command}
use Rattle.request_book.specs.declared.values.journal.Entry.{Entry}
use Rattle.request_book.specs.declared.values.journal.Journal.{Journal}
use Rattle.request_book.specs.declared.values.outcome.Answer.{Answer}
use Rattle.request_book.specs.declared.values.outcome.Answer.TheVariants.{Overflow, Planned}
use Rattle.request_book.specs.declared.values.outcome.ChosenTrip.{ChosenTrip}
use Rattle.request_book.specs.declared.values.outcome.PlannedStop.{PlannedStop}
use Rattle.request_book.specs.declared.values.reply.Reply.{Reply}
use Rattle.request_book.specs.declared.values.state.State.{State}
use Rattle.request_book.specs.declared.notices.notice.Notice.{Notice}
use Rattle.request_book.specs.declared.notices.notice.Notice.TheVariants.{Promised, Unserved}

-- the second of the first stop that picks the rider up, or of the first that drops them
abbrev pub stop_second : Bool → ℕ → List PlannedStop → Option ℕ
stop_second pick rider stops = option_map (λ stop. stop.second) (find (λ stop. (if pick then stop.pick else not stop.pick) && (stop.rider == rider)) stops)

-- the notice of a trip to a rider, if it picks the rider up; without a drop-off the rider arrives at the pickup
abbrev pub trip_notice : ℕ → ChosenTrip → ℕ → Option Notice
trip_notice batch trip rider =
    option_map (λ pickup. Promised batch rider trip.vehicle pickup (unwrap_or (stop_second false rider trip.stops.items) pickup)) (stop_second true rider trip.stops.items)

-- the notice of a rider: of the first chosen trip that picks the rider up, if one does
unfoldable pub notice_of : ℕ → List ChosenTrip → ℕ → Notice
notice_of batch [] rider = Unserved batch rider
notice_of batch (trip ∷ trips) rider = unwrap_or (trip_notice batch trip rider) (notice_of batch trips rider)

-- the notices of an answer to the riders of its batch who wait or have a promise in this state; an overflow has none
abbrev pub batch_notices : State → Batch → Answer → List Notice
batch_notices s b Overflow = []
batch_notices s b (Planned plan) =
    map (λ r. notice_of b.number plan.chosen r.id) (filter (λ r. option_map_or (λ known. is_active known.status) (find_rider r.id s.riders) false) b.riders)

-- the notices of an entry, in the state before it: a close that was answered `closed` has those of its batch
abbrev pub entry_notices : State → Command → Reply → List Notice
entry_notices s command reply =
    option_map_or (λ closed. option_map_or (λ b. batch_notices s b closed.1.answer) s.sealed []) (closed_outcome command reply) []

-- the notices of entries, one after the other, from the state before them
unfoldable pub notices_from : List ℕ → ℕ → State → List Entry → List Notice
notices_from nodes wait s [] = []
notices_from nodes wait s (e ∷ es) = entry_notices s e.command e.reply ++ notices_from nodes wait (step nodes wait s e.command).0 es

-- the notices of a journal, for the nodes of a network and a longest wait
abbrev pub notices : List ℕ → ℕ → Journal → List Notice
notices nodes wait journal = notices_from nodes wait journal.base journal.entries
