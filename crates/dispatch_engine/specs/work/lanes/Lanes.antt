use Rattle.std.specs.Prelude.{◌≡◌, ◌≢◌, ℕ, ◌==◌, ◌<◌, ◌≤◌, List, None, filter, map, length, slice_index_or, []}
use Rattle.std.specs.List.{AllByRecursion}
use Rattle.request_book.specs.Replay.{state_after}
use Rattle.request_book.specs.declared.values.command.Command.{Command}
use Rattle.request_book.specs.declared.values.journal.Entry.{Entry}
use Rattle.request_book.specs.declared.values.state.State.{State}
use Rattle.rider_limits.specs.declared.settings.Settings.{Settings}
use Rattle.road_network.specs.Roads.{Roads}
use Rattle.seat_lock.specs.declared.logged.LoggedCall.{LoggedCall}
use Rattle.dispatch_engine.specs.declared.lanes.locked.LockedReply.{LockedReply}
use Rattle.dispatch_engine.specs.lanes.Locked.{entry_of}
use Rattle.dispatch_engine.specs.lanes.Shared.{BookPass}
use Rattle.dispatch_engine.specs.lanes.Lane.{of_lane, IsLaneRun, LaneClosesAreGood, ClosesAreGood}
use Rattle.dispatch_engine.specs.lemmas.lanes.Lanes.{IsPlain}

-- From what each lane did to the one history in which all of them stand.

-- the calls of a lane in a log
abbrev pub calls_of_lane : ℕ → List (LoggedCall Command LockedReply) → List (LoggedCall Command LockedReply)
calls_of_lane lane calls = filter (λ c. c.lane == lane) calls

-- the calls of a pass, without their positions
abbrev pub calls_of_pass : BookPass → List (LoggedCall Command LockedReply)
calls_of_pass p = map (λ c. c.1) p.calls

-- each pass ran its lane's commands; lane 0 alone seals, and its closes are good; where there is no pass there is no command
pub record HaveRun (settings : Settings) (roads : Roads) (lanes : ℕ → List Command) (passes : List BookPass) : Type 0 where
  pub some : 0 < length passes
  pub runs : (k : ℕ) (d : BookPass) → k < length passes → IsLaneRun (lanes k) (map entry_of (calls_of_pass (slice_index_or passes k d)))
  pub closes : (d : BookPass) → LaneClosesAreGood settings roads None (calls_of_pass (slice_index_or passes 0 d))
  pub plain : (k : ℕ) → k ≢ 0 → AllByRecursion IsPlain (lanes k)
  pub beyond : (k : ℕ) → length passes ≤ k → lanes k ≡ []

-- the entries are a run of each lane's commands, every close is good, and no batch waits for its close
pub record IsJointRun (settings : Settings) (roads : Roads) (s : State) (commands : ℕ → List Command) (entries : List Entry) : Type 0 where
  pub lanes : (k : ℕ) → IsLaneRun (commands k) (of_lane k entries)
  pub closes : ClosesAreGood settings roads s entries
  pub closed : (state_after roads.nodes settings.wait s entries).sealed ≡ None
