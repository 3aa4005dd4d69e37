use Rattle.std.specs.Prelude.{ℕ, List, Option, Some, None, codes, count_by}
use Rattle.request_book.specs.declared.values.reply.BookRefusal.{BookRefusal}
use Rattle.request_book.specs.declared.values.reply.BookRefusal.TheVariants.{DuplicateRider, UnknownNode, SamePlace, PoolFull, BookFull, UnknownRider, IsAboard, Ended, UnknownVehicle, TimeBack, NotPromised, VehicleFull, NotAboard, BatchOpen, ClockBack, NotThisBatch}
use Rattle.request_book.specs.declared.values.reply.Reply.{Reply}
use Rattle.request_book.specs.declared.values.reply.Reply.TheVariants.{Accepted, Cancelled, Placed, Picked, Dropped, Sealed, Closed, Refused}
use Rattle.request_book.specs.declared.values.rider.Status.{Status}
use Rattle.request_book.specs.declared.values.rider.Status.TheVariants.{Waiting, Promised, Aboard, Cancelled as GivenUp, Delivered, Expired}
use Rattle.request_book.specs.declared.values.outcome.ChosenTrip.{ChosenTrip}

-- Parts of lines, as proofs call them.

-- how many riders a trip picks up
abbrev pub pickups : ChosenTrip → ℕ
pickups trip = count_by (λ stop. stop.pick) trip.stops.items

-- the words of a reply, behind a space, up to what it tells
abbrev pub reply_words : Reply → List ℕ
reply_words Accepted = codes " accepted"
reply_words Cancelled = codes " cancelled"
reply_words Placed = codes " placed"
reply_words Picked = codes " picked"
reply_words Dropped = codes " dropped"
reply_words (Sealed batch) = codes " sealed"
reply_words Closed = codes " closed"
reply_words (Refused refusal) = codes " refused "

-- the words of a status in which a rider has ended
abbrev pub ended_words : Status → List ℕ
ended_words Waiting = codes "ended waiting"
ended_words (Promised p) = codes "ended promised"
ended_words (Aboard v) = codes "ended aboard"
ended_words GivenUp = codes "ended cancelled"
ended_words Delivered = codes "ended delivered"
ended_words Expired = codes "ended expired"

-- the words of a refusal, up to the number that it tells
abbrev pub refusal_words : BookRefusal → List ℕ
refusal_words DuplicateRider = codes "duplicate-rider"
refusal_words UnknownNode = codes "unknown-node"
refusal_words SamePlace = codes "same-place"
refusal_words PoolFull = codes "pool-full"
refusal_words BookFull = codes "book-full"
refusal_words UnknownRider = codes "unknown-rider"
refusal_words (IsAboard vehicle) = codes "is-aboard"
refusal_words (Ended status) = ended_words status
refusal_words UnknownVehicle = codes "unknown-vehicle"
refusal_words (TimeBack last) = codes "time-back"
refusal_words (NotPromised holder) = codes "not-promised"
refusal_words VehicleFull = codes "vehicle-full"
refusal_words NotAboard = codes "not-aboard"
refusal_words (BatchOpen batch) = codes "batch-open"
refusal_words (ClockBack last) = codes "clock-back"
refusal_words (NotThisBatch current) = codes "not-this-batch"

-- the number that a refusal tells behind its words, or that there is none
abbrev pub told_number : BookRefusal → Option (Option ℕ)
told_number (IsAboard vehicle) = Some (Some vehicle)
told_number (TimeBack last) = Some (Some last)
told_number (NotPromised holder) = Some holder
told_number (BatchOpen batch) = Some (Some batch)
told_number (ClockBack last) = Some (Some last)
told_number (NotThisBatch current) = Some current
told_number _ = None
