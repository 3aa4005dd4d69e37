-- A day under way.
use Rattle.std.specs.Prelude.{◌≡◌, ◌≢◌, ◌<◌, ◌≤◌, ℕ, List, [], ◌∷◌, ◌++◌, Some, All, length, map, Option, take, slice_index_or, None}
use Rattle.std.specs.List.{Any}
use Rattle.request_book.specs.Book.{BookView, next_position}
use Rattle.request_book.specs.Replay.{state_after}
use Rattle.request_book.specs.declared.values.command.Command.{Command}
use Rattle.request_book.specs.declared.values.journal.Journal.{Journal}
use Rattle.request_book.specs.declared.values.state.State.{State}
use Rattle.rider_limits.specs.declared.settings.Settings.{Settings}
use Rattle.road_network.specs.Roads.{Roads}
use Rattle.input_rows.specs.script.Round.{NumberedLanes, lane_at, empty_round}
use Rattle.dispatch_engine.specs.lanes.Run.{IsReady, IsRoundRun, IsRun, position_after_run, state_after_run}
use Rattle.route_drive.specs.declared.course.Course.{Course}
use Rattle.route_drive.specs.declared.day_run.DayRound.{DayRound}
use Rattle.dispatch_report.specs.declared.day.DayCounts.{DayCounts}
use Rattle.route_drive.specs.declared.drive.Drive.{Drive}
use Rattle.route_drive.specs.declared.day_run.DriveFault.{DriveFault}
use Rattle.route_drive.specs.declared.day_run.DriveFault.TheVariants as fault
use Rattle.route_drive.specs.declared.entering.Stopped.{Stopped}
use Rattle.route_drive.specs.declared.entering.Stopped.TheVariants as stop
use Rattle.route_drive.specs.Day.{seal_of, round_fault, latest_seal}
use Rattle.route_drive.specs.Counts.{AreCounts, entries_of}
use Rattle.route_drive.specs.Driven.{AreDriven, first_courses, IsDrivenDay, IsDrivenRound, courses_after, courses_from, number_after}
use Rattle.route_drive.specs.work.Counting.{AddsServed, AreServed}
use Rattle.pool_base.specs.TravelTime.{longest}
use Rattle.route_drive.specs.Entering.{EntersTooLate, left_commands, second_of}
use Rattle.route_drive.specs.declared.day.DayFault.{DayFault}
use Rattle.request_book.specs.declared.values.vehicle.Vehicle.{Vehicle}
use Rattle.route_drive.specs.declared.course.Stay.{Stay}

-- where a vehicle was reported, and from when on it can leave
abbrev pub reported_place : Vehicle → Stay
reported_place v = record { node = v.node; second = v.time; free = v.time }

-- a command has a second of at most 1,000,000,000
abbrev pub IsInTime : Command → Type 0
IsInTime command = second_of command ≤ longest

-- nothing is on its way
abbrev pub at_rest : Course
at_rest = record { stops = record { items = [] }; target = None }

-- why the round of a number is refused, if it is
abbrev pub fault_at : List NumberedLanes → ℕ → Option DayFault
fault_at rounds k = round_fault (latest_seal (take k rounds)) (slice_index_or rounds k (empty_round 0))

-- rounds of a day were driven from a state; the book and what is on its way are as they leave them
pub record IsUnderWay (settings : Settings) (roads : Roads) (s : State) (rounds : List NumberedLanes) (book : BookView) (courses : List Course) (made : List DayRound) : Type 0 where
  pub script : List NumberedLanes
  pub driven : AreDriven settings roads (first_courses settings roads s) rounds script (map (λ r. r.journal) made)
  pub numbers : map (λ r. r.number) made ≡ map (λ r. r.number) rounds
  pub run : IsRun settings roads s 0 script (map (λ r. r.journal) made)
  pub ready : IsReady settings roads book
  pub entries : book.entries ≡ []
  pub base : book.base ≡ book.state
  pub state : book.state ≡ state_after_run settings roads s (map (λ r. r.journal) made)
  pub first : book.first ≡ position_after_run 0 (map (λ r. r.journal) made)
  pub courses_are : courses ≡ courses_from settings roads s rounds made
  pub each : length courses ≡ length book.state.vehicles

-- whatever rounds were taken before, after it one more is
abbrev pub Takes : (List DayRound → Type 0) → (List DayRound → Type 0) → DayRound → Type 0
Takes Before After r = (made : List DayRound) → Before made → After (made ++ r ∷ [])

-- whatever rounds were taken before, after it these are
abbrev pub Stays : (List DayRound → Type 0) → (List DayRound → Type 0) → Type 0
Stays Before After = (made : List DayRound) → Before made → After made

-- rounds of a day were driven from a state, and were taken
pub record HasCome (Took : List DayRound → Type 0) (settings : Settings) (roads : Roads) (s : State) (rounds : List NumberedLanes) (drive : Drive) : Type 0 where
  pub made : List DayRound
  pub taken : Took made
  pub served : AreServed (entries_of made) drive.served
  pub way : IsUnderWay settings roads s rounds drive.book drive.courses.items made

-- a round was run from a book, and its journal taken
pub record IsTaken (settings : Settings) (roads : Roads) (driven : NumberedLanes) (book book' : BookView) (journal : Journal) : Type 0 where
  pub run : IsRoundRun settings roads driven journal
  pub base : journal.base ≡ book.base
  pub first : journal.first ≡ book.first
  pub ready : IsReady settings roads book'
  pub entries : book'.entries ≡ []
  pub base_is : book'.base ≡ book'.state
  pub state : book'.state ≡ state_after roads.nodes settings.wait book.base journal.entries
  pub next : book'.first ≡ next_position book.first journal.entries

-- a round was driven, and leaves the day as this
pub record IsRoundOn (settings : Settings) (roads : Roads) (round : NumberedLanes) (drive : Drive) (Before After : List DayRound → Type 0) (drive' : Drive) : Type 0 where
  pub driven : NumberedLanes
  pub is_driven : IsDrivenRound settings roads drive.book.state drive.courses.items round driven
  pub journal : Journal
  pub taken : IsTaken settings roads driven drive.book drive'.book journal
  pub kept : Takes Before After (record { number = round.number; journal = journal })
  pub served : AddsServed journal.entries drive.served drive'.served
  pub courses_are : drive'.courses.items ≡ courses_after drive'.book.state round journal.entries drive.courses.items

-- why a day stopped
abbrev pub IsStoppedAt : Stopped → ℕ → DriveFault → Type 0
IsStoppedAt stop.TooLate number answer = answer ≡ fault.TooLate number
IsStoppedAt stop.OutOfMemory number answer = answer ≡ fault.OutOfMemory

-- the round of a number is too late, as is said of it
abbrev pub IsLateAt : ℕ → Type 0 → (List DayRound → Type 0) → (List DayRound → Type 0) → DriveFault → Type 0
IsLateAt number Late Before After (fault.TooLate round) = (round ≡ number) × Stays Before After × Late
IsLateAt number Late Before After fault.OutOfMemory = Unit {0}

-- the last round was run, and leaves the day as this
pub record IsLastOn (settings : Settings) (roads : Roads) (number : ℕ) (drive : Drive) (Before After : List DayRound → Type 0) (drive' : Drive) : Type 0 where
  pub driven : NumberedLanes
  pub own : lane_at driven 0 ≡ left_commands drive.book.state.vehicles drive.courses.items
  pub others : (lane : ℕ) → lane ≢ 0 → lane_at driven lane ≡ []
  pub in_time : All IsInTime (left_commands drive.book.state.vehicles drive.courses.items)
  pub journal : Journal
  pub taken : IsTaken settings roads driven drive.book drive'.book journal
  pub kept : Takes Before After (record { number = number; journal = journal })
  pub served : AddsServed journal.entries drive.served drive'.served
  pub nodes : drive'.book.nodes ≡ roads.nodes

-- a day whose rounds were driven came to its end: with its last round, unless it was empty
abbrev pub HasEnded : Settings → Roads → List NumberedLanes → Drive → (List DayRound → Type 0) → (List DayRound → Type 0) → Drive → Type 0
HasEnded settings roads [] drive Before After end = (end ≡ drive) × Stays Before After
HasEnded settings roads rounds drive Before After end = IsLastOn settings roads (number_after rounds) drive Before After end

-- the rounds that were taken are those of a driven day, and these are its counts
pub record IsCounted (Took : List DayRound → Type 0) (settings : Settings) (roads : Roads) (s : State) (rounds : List NumberedLanes) (run : DayCounts) : Type 0 where
  pub made : List DayRound
  pub taken : Took made
  pub driven : IsDrivenDay settings roads s rounds made
  pub counts : AreCounts roads (state_after_run settings roads s (map (λ r. r.journal) made)).riders (entries_of made) run
