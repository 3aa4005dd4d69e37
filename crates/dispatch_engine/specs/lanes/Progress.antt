-- How far the lanes of a round have come.
use Rattle.std.specs.Prelude.{◌≡◌, ℕ, ◌+◌, ◌↔◌, List, [], ◌++◌, Option, None, Some, drop, slice_get, slice_index_or}
use Rattle.dispatch_engine.specs.lanes.Lane.{of_lane, IsCloseOf, IsLaneRun, IsLaneRunFrom}
use Rattle.dispatch_engine.specs.declared.lanes.lane_progress.LaneProgress.{LaneProgress}
use Rattle.request_book.specs.declared.values.command.Command.{Command}
use Rattle.request_book.specs.declared.values.journal.Entry.{Entry}
use Rattle.request_book.specs.declared.values.reply.Reply.{Reply}
use Rattle.input_rows.specs.script.Round.{NumberedLanes, lane_at}
use Rattle.dispatch_engine.specs.lanes.Locked.{sealed_by}

-- at the beginning no command was taken, and no batch waits for its close
abbrev pub at_start : LaneProgress
at_start = record { taken = 0; pending = None }

-- how far a lane has come
abbrev pub progress_at : List LaneProgress → ℕ → LaneProgress
progress_at lanes lane = slice_index_or lanes lane at_start

-- the entries are all that a lane that stands so has still to do
abbrev pub IsRest : List Command → LaneProgress → List Entry → Type 0
IsRest commands progress rest = IsLaneRunFrom progress.pending (drop progress.taken commands) rest

-- the command is the close of the batch that waits for it, or else the one at this place
abbrev pub IsNextFrom : Option ℕ → ℕ → List Command → Command → Type 0
IsNextFrom None taken commands command = slice_get commands taken ≡ Some command
IsNextFrom (Some batch) taken commands command = IsCloseOf batch command

-- the command is the one with which a lane that stands so goes on
abbrev pub IsNext : List Command → LaneProgress → Command → Type 0
IsNext commands progress command = IsNextFrom progress.pending progress.taken commands command

-- how far a lane has come with one more entry, by the batch that waits for its close and how many commands were taken
abbrev pub after_from : Option ℕ → ℕ → Reply → LaneProgress
after_from None taken reply = record { taken = taken + 1; pending = sealed_by reply }
after_from (Some batch) taken reply = record { taken = taken; pending = None }

-- how far a lane that stands so has come with one more entry of this reply
abbrev pub progress_after : LaneProgress → Reply → LaneProgress
progress_after progress reply = after_from progress.pending progress.taken reply

-- the entries so far, with others behind them, are a run of each lane's commands exactly where these are what it has still to do
abbrev pub HaveCome : NumberedLanes → List LaneProgress → List Entry → Type 0
HaveCome round lanes entries =
    (lane : ℕ) (rest : List Entry) → IsRest (lane_at round lane) (progress_at lanes lane) rest ↔ IsLaneRun (lane_at round lane) (of_lane lane entries ++ rest)

-- no lane has anything still to do
abbrev pub AreDone : NumberedLanes → List LaneProgress → Type 0
AreDone round lanes = (lane : ℕ) → IsRest (lane_at round lane) (progress_at lanes lane) []
