use Rattle.std.specs.Prelude.{ℕ, List, None, Some, map, if◌then◌else◌}
use Rattle.std.specs.List.{filter_map}
use Rattle.request_book.specs.declared.values.batch_rider.Rider.{Rider}
use Rattle.request_book.specs.declared.values.outcome.Answer.{Answer}
use Rattle.request_book.specs.declared.values.outcome.Answer.TheVariants.{Overflow, Planned}
use Rattle.request_book.specs.declared.values.outcome.PlannedStop.{PlannedStop}
use Rattle.request_book.specs.declared.values.rider.BookRider.{BookRider}
use Rattle.request_book.specs.declared.values.state.State.{State}
use Rattle.request_book.specs.register.Closing.{Pick, after_plan, picks}

-- the pick stops of a vehicle's trip, in their order
unfoldable pub trip_picks : ℕ → List PlannedStop → List Pick
trip_picks vehicle stops = filter_map (λ stop.
    if stop.pick then Some (record { rider = stop.rider; promise = record { vehicle = vehicle; pickup = stop.second } }) else None) stops

-- the riders after an answer for a batch of these riders
unfoldable pub after_answer : List Rider → Answer → List BookRider → List BookRider
after_answer batch Overflow riders = riders
after_answer batch (Planned plan) riders = map (after_plan batch (picks plan.chosen)) riders

-- the state after the close of the sealed batch
unfoldable pub closed_state : State → Answer → State
closed_state s answer = elim s.sealed [ None ↦ s | Some b ↦ record s { riders = after_answer b.riders answer s.riders; sealed = None } ]
