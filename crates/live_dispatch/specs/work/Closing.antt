-- A close at a desk of its own.
use Rattle.std.specs.Prelude.{Bool, true, false}
use Rattle.dispatch_engine.specs.declared.lanes.locked.LockedReply.{LockedReply}
use Rattle.live_dispatch.specs.Desk.{DeskView, HasEntered, IsSameDesk}
use Rattle.request_book.specs.declared.values.command.Command.{Command}

-- a command of lane 0 was taken, or the desk is as it was
abbrev pub HasEnteredOr : Bool → DeskView → Command → DeskView → Type 0
HasEnteredOr true old command new = (reply : LockedReply) × HasEntered old 0 command reply new
HasEnteredOr false old command new = IsSameDesk old new
