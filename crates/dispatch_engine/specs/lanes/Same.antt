-- When two journals have the same commands.
use Rattle.std.specs.Prelude.{◌≡◌, ◌≢◌, ℕ, []}
use Rattle.std.specs.List.{AllZip}
use Rattle.request_book.specs.declared.values.command.Command.{Command}
use Rattle.request_book.specs.declared.values.command.Command.TheVariants.{Close}
use Rattle.request_book.specs.declared.values.journal.Journal.{Journal}
use Rattle.input_rows.specs.script.Round.{NumberedLanes, lane_at}
use Rattle.dispatch_engine.specs.lanes.Lane.{IsCloseOf}

-- every command of the round stands in lane 0
abbrev pub IsInLaneZero : NumberedLanes → Type 0
IsInLaneZero round = (lane : ℕ) → lane ≢ 0 → lane_at round lane ≡ []

-- the same command; of a close the number of its batch alone counts
abbrev pub IsSameCommand : Command → Command → Type 0
IsSameCommand (Close batch outcome) other = IsCloseOf batch other
IsSameCommand command other = command ≡ other

-- the two have the same commands, one by one
abbrev pub HaveSameCommands : Journal → Journal → Type 0
HaveSameCommands one other = AllZip (λ a b. IsSameCommand a.command b.command) one.entries other.entries
