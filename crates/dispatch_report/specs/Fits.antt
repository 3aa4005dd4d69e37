-- Which entries a line can tell: each number is within its type.
use Rattle.std.specs.Prelude.{ℕ, ◌≤◌, ◌<◌, ◌^◌, IfSome}
use Rattle.request_book.specs.declared.values.command.Command.{Command}
use Rattle.request_book.specs.declared.values.command.Command.TheVariants.{Submit, Cancel, Report, Pickup, Dropoff, Seal, Close}
use Rattle.request_book.specs.declared.values.reply.BookRefusal.{BookRefusal}
use Rattle.request_book.specs.declared.values.reply.BookRefusal.TheVariants.{IsAboard, Ended, TimeBack, NotPromised, BatchOpen, ClockBack, NotThisBatch}
use Rattle.request_book.specs.declared.values.reply.Reply.{Reply}
use Rattle.request_book.specs.declared.values.reply.Reply.TheVariants.{Sealed, Refused}
use Rattle.request_book.specs.declared.values.rider.Status.{Status}
use Rattle.request_book.specs.declared.values.rider.Status.TheVariants.{Cancelled, Delivered, Expired}

-- a rider, a vehicle or a node
abbrev pub IsId : ℕ → Type 0
IsId n = n ≤ 1000000000

-- a moment, in seconds
abbrev pub IsSecond : ℕ → Type 0
IsSecond n = n ≤ 1000000000

-- the number of a batch
abbrev pub IsBatch : ℕ → Type 0
IsBatch n = n < 2 ^ 64

-- each number of a command is within its type; of a close the line tells the batch alone
abbrev pub IsCommand : Command → Type 0
IsCommand (Submit rider origin destination time party) = IsId rider × IsId origin × IsId destination × IsSecond time × (1 ≤ party) × (party ≤ 6)
IsCommand (Cancel rider) = IsId rider
IsCommand (Report vehicle node time) = IsId vehicle × IsId node × IsSecond time
IsCommand (Pickup vehicle rider time) = IsId vehicle × IsId rider × IsSecond time
IsCommand (Dropoff vehicle rider time) = IsId vehicle × IsId rider × IsSecond time
IsCommand (Seal now) = IsSecond now
IsCommand (Close batch outcome) = IsBatch batch

-- a status in which a rider has ended
abbrev pub IsEnded : Status → Type 0
IsEnded Cancelled = Unit {0}
IsEnded Delivered = Unit {0}
IsEnded Expired = Unit {0}
IsEnded _ = ⊥

-- each number of a refusal is within its type, and a status that it tells is one in which a rider has ended
abbrev pub IsRefusal : BookRefusal → Type 0
IsRefusal (IsAboard vehicle) = IsId vehicle
IsRefusal (Ended status) = IsEnded status
IsRefusal (TimeBack last) = IsSecond last
IsRefusal (NotPromised holder) = IfSome holder IsId
IsRefusal (BatchOpen batch) = IsBatch batch
IsRefusal (ClockBack last) = IsSecond last
IsRefusal (NotThisBatch current) = IfSome current IsBatch
IsRefusal _ = Unit {0}

-- the same of a reply
abbrev pub IsReply : Reply → Type 0
IsReply (Sealed batch) = IsBatch batch
IsReply (Refused refusal) = IsRefusal refusal
IsReply _ = Unit {0}

-- where a reply tells how a rider's request ended, it did
abbrev pub TellsEnd : Reply → Type 0
TellsEnd (Refused (Ended status)) = IsEnded status
TellsEnd _ = Unit {0}
