-- The lanes of a round at work.
use Rattle.std.specs.Prelude.{◌≡◌, ℕ, ◌<◌, ◌≤◌, true, false, List, [], None, length, map, slice_index_or}
use Rattle.request_book.specs.Book.{BookView}
use Rattle.request_book.specs.declared.values.command.Command.{Command}
use Rattle.rider_limits.specs.declared.settings.Settings.{Settings}
use Rattle.road_network.specs.Roads.{Roads}
use Rattle.input_rows.specs.script.Round.{IsRound, NumberedLanes, lane_at}
use Rattle.seat_lock.specs.Values.{IsPassOf, LockValue}
use Rattle.dispatch_engine.specs.lanes.Locked.{entry_of}
use Rattle.dispatch_engine.specs.lanes.Shared.{BookPass, HasCalledSome}
use Rattle.dispatch_engine.specs.declared.lanes.shared.Receipt.{Receipt}
use Rattle.dispatch_engine.specs.declared.lanes.crew.LaneWork.{LaneWork}
use Rattle.dispatch_engine.specs.lanes.Lane.{IsLaneRun, LaneClosesAreGood}
use Rattle.dispatch_engine.specs.work.lanes.Lanes.{calls_of_pass}

-- the command is the pass's last call, whatever was replied
pub record HasTaken (nodes : List ℕ) (old : BookPass) (command : Command) (new : BookPass) : Type 0 where
  pub receipt : Receipt
  pub called : HasCalledSome nodes old command receipt new

-- so many lanes are enough for the round: no lane from there on has a command
pub record IsSharedBy (round : NumberedLanes) (lanes : ℕ) : Type 0 where
  pub kept : IsRound round
  pub some : 1 ≤ lanes
  pub few : lanes ≤ 16
  pub rest : (lane : ℕ) → lanes ≤ lane → lane_at round lane ≡ []

-- a lane that hasn't begun
abbrev pub at_rest : BookPass → LaneWork
at_rest pass = record { pass = pass; done = false }

-- the lane's pass is of this book, and has made no call
pub record IsToWork (book : LockValue BookView) (w : LaneWork) : Type 0 where
  pub own : IsPassOf book w.pass
  pub fresh : w.pass.calls ≡ []
  pub lane : w.pass.lane < 16

-- all calls of the pass are a run of these commands, and its closes are good for the batches that it sealed
pub record HasRunLane (settings : Settings) (roads : Roads) (commands : List Command) (pass : BookPass) : Type 0 where
  pub run : IsLaneRun commands (map entry_of (calls_of_pass pass))
  pub closes : LaneClosesAreGood settings roads None (calls_of_pass pass)

-- the lane's pass is of this book; where the lane is done, the pass has run its commands
pub record HasWorked (settings : Settings) (roads : Roads) (round : NumberedLanes) (book : LockValue BookView) (w : LaneWork) : Type 0 where
  pub own : IsPassOf book w.pass
  pub ran : w.done ≡ true → HasRunLane settings roads (lane_at round w.pass.lane) w.pass

-- the lanes stand by rising number from 0
abbrev pub AreInOrder : List LaneWork → Type 0
AreInOrder crew = (k : ℕ) (d : LaneWork) → k < length crew → (slice_index_or crew k d).pass.lane ≡ k

-- each pass has run the commands of its lane
abbrev pub HaveRunLanes : Settings → Roads → NumberedLanes → List BookPass → Type 0
HaveRunLanes settings roads round passes =
    (k : ℕ) (d : BookPass) → k < length passes → HasRunLane settings roads (lane_at round k) (slice_index_or passes k d)
