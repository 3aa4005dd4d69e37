use Rattle.std.specs.Prelude.{ℕ, Option, None, Some}
use Rattle.request_book.specs.declared.values.command.Command.{Command}
use Rattle.request_book.specs.declared.values.command.Command.TheVariants.{Close}
use Rattle.request_book.specs.declared.values.outcome.Outcome.{Outcome}
use Rattle.request_book.specs.declared.values.reply.Reply.{Reply}
use Rattle.request_book.specs.declared.values.reply.Reply.TheVariants.{Closed}

-- every command but a close
abbrev pub IsNoClose : Command → Type 0
IsNoClose (Close batch outcome) = ⊥
IsNoClose _ = Unit {0}

-- the batch's number and the outcome of a close that was answered `closed`; no other entry has one
abbrev pub closed_outcome : Command → Reply → Option (ℕ × Outcome)
closed_outcome (Close batch outcome) Closed = Some (batch, outcome)
closed_outcome _ _ = None
