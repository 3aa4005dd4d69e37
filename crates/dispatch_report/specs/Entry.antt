-- The line of a journal's entry: its position, its lane, the command with its fields, and the reply.
use Rattle.std.specs.Prelude.{ℕ, ◌==◌, List, [], ◌++◌, codes, decimal, if◌then◌else◌}
use Rattle.std.specs.Option.{option_map_or}
use Rattle.dispatch_report.specs.Words.{numbered, spaced}
use Rattle.request_book.specs.declared.values.command.Command.{Command}
use Rattle.request_book.specs.declared.values.command.Command.TheVariants.{Submit, Cancel, Report, Pickup, Dropoff, Seal, Close}
use Rattle.request_book.specs.declared.values.journal.Entry.{Entry}
use Rattle.request_book.specs.declared.values.reply.BookRefusal.{BookRefusal}
use Rattle.request_book.specs.declared.values.reply.BookRefusal.TheVariants.{DuplicateRider, UnknownNode, SamePlace, PoolFull, BookFull, UnknownRider, IsAboard, Ended, UnknownVehicle, TimeBack, NotPromised, VehicleFull, NotAboard, BatchOpen, ClockBack, NotThisBatch}
use Rattle.request_book.specs.declared.values.reply.Reply.{Reply}
use Rattle.request_book.specs.declared.values.reply.Reply.TheVariants.{Accepted, Cancelled, Placed, Picked, Dropped, Sealed, Closed, Refused}
use Rattle.request_book.specs.declared.values.rider.Status.{Status}
use Rattle.request_book.specs.declared.values.rider.Status.TheVariants.{Waiting, Promised, Aboard, Cancelled as GivenUp, Delivered, Expired}

-- a command with its fields; a party where it isn't one person
abbrev pub command_text : Command → List ℕ
command_text (Submit rider origin destination time party) =
    numbered (codes "submit ") rider ++ spaced origin ++ spaced destination ++ spaced time ++ (if party == 1 then [] else spaced party)
command_text (Cancel rider) = numbered (codes "cancel ") rider
command_text (Report vehicle node time) = numbered (codes "report ") vehicle ++ spaced node ++ spaced time
command_text (Pickup vehicle rider time) = numbered (codes "pickup ") vehicle ++ spaced rider ++ spaced time
command_text (Dropoff vehicle rider time) = numbered (codes "dropoff ") vehicle ++ spaced rider ++ spaced time
command_text (Seal now) = numbered (codes "seal ") now
command_text (Close batch outcome) = numbered (codes "close ") batch

-- the word of a status
abbrev pub rider_status_text : Status → List ℕ
rider_status_text Waiting = codes "waiting"
rider_status_text (Promised p) = codes "promised"
rider_status_text (Aboard v) = codes "aboard"
rider_status_text GivenUp = codes "cancelled"
rider_status_text Delivered = codes "delivered"
rider_status_text Expired = codes "expired"

-- the words of a refusal
abbrev pub refusal_text : BookRefusal → List ℕ
refusal_text DuplicateRider = codes "duplicate-rider"
refusal_text UnknownNode = codes "unknown-node"
refusal_text SamePlace = codes "same-place"
refusal_text PoolFull = codes "pool-full"
refusal_text BookFull = codes "book-full"
refusal_text UnknownRider = codes "unknown-rider"
refusal_text (IsAboard vehicle) = numbered (codes "is-aboard ") vehicle
refusal_text (Ended status) = codes "ended " ++ rider_status_text status
refusal_text UnknownVehicle = codes "unknown-vehicle"
refusal_text (TimeBack last) = numbered (codes "time-back ") last
refusal_text (NotPromised holder) = codes "not-promised" ++ option_map_or spaced holder (codes " none")
refusal_text VehicleFull = codes "vehicle-full"
refusal_text NotAboard = codes "not-aboard"
refusal_text (BatchOpen batch) = numbered (codes "batch-open ") batch
refusal_text (ClockBack last) = numbered (codes "clock-back ") last
refusal_text (NotThisBatch current) = codes "not-this-batch" ++ option_map_or spaced current (codes " none")

-- the words of a reply
abbrev pub reply_text : Reply → List ℕ
reply_text Accepted = codes "accepted"
reply_text Cancelled = codes "cancelled"
reply_text Placed = codes "placed"
reply_text Picked = codes "picked"
reply_text Dropped = codes "dropped"
reply_text (Sealed batch) = numbered (codes "sealed ") batch
reply_text Closed = codes "closed"
reply_text (Refused refusal) = codes "refused " ++ refusal_text refusal

-- the line of an entry at its position
abbrev pub entry_line : ℕ → Entry → List ℕ
entry_line position e = decimal position ++ spaced e.lane ++ codes " " ++ command_text e.command ++ codes " " ++ reply_text e.reply
