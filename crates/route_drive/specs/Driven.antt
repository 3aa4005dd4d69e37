-- The driven script of a day: its rounds with what is entered before each seal, and a last round of the stops left.
use Rattle.std.specs.Prelude.{◌≡◌, ◌≢◌, ℕ, ◌+◌, ◌<◌, ◌≤◌, List, [], ◌∷◌, ◌++◌, Option, None, Some, MatchOption, All, map, option_map, option_and_then}
use Rattle.std.specs.List.{Any}
use Rattle.std.specs.Option.{option_or, option_map_or}
use Rattle.pool_base.specs.TravelTime.{longest}
use Rattle.request_book.specs.values.Kept.{IsFleet}
use Rattle.request_book.specs.declared.values.vehicle.Vehicle.{Vehicle}
use Rattle.request_book.specs.values.Command.{closed_outcome}
use Rattle.request_book.specs.Book.{BookView, opening}
use Rattle.request_book.specs.values.Keyed.{look_up}
use Rattle.request_book.specs.Replay.{state_after}
use Rattle.request_book.specs.values.State.{find_rider}
use Rattle.request_book.specs.declared.values.command.Command.{Command}
use Rattle.request_book.specs.declared.values.journal.Entry.{Entry}
use Rattle.request_book.specs.declared.values.journal.Journal.{Journal}
use Rattle.request_book.specs.declared.values.outcome.Answer.{Answer}
use Rattle.request_book.specs.declared.values.outcome.Answer.TheVariants as answer
use Rattle.request_book.specs.declared.values.outcome.Planned.{Planned}
use Rattle.request_book.specs.declared.values.reply.Reply.{Reply}
use Rattle.request_book.specs.declared.values.rider.BookRider.{BookRider}
use Rattle.request_book.specs.declared.values.state.State.{State}
use Rattle.rider_limits.specs.declared.settings.Settings.{Settings}
use Rattle.road_network.specs.Roads.{Roads}
use Rattle.input_rows.specs.script.Round.{NumberedLanes, empty_round, lane_at}
use Rattle.dispatch_engine.specs.lanes.Run.{IsRun, state_after_run}
use Rattle.route_drive.specs.declared.course.Course.{Course}
use Rattle.route_drive.specs.declared.day_run.DayRound.{DayRound}
use Rattle.route_drive.specs.declared.day_run.DriveFault.{DriveFault}
use Rattle.route_drive.specs.declared.day_run.DriveFault.TheVariants.{TooLate, OutOfMemory}
use Rattle.route_drive.specs.Day.{seal_of}
use Rattle.route_drive.specs.Entering.{AreEntered, EntersTooLate, left_commands, second_of, to_come}

-- a round with commands before those of its lane 0
pub record IsPrecededBy (before : List Command) (round driven : NumberedLanes) : Type 0 where
  pub number : driven.number ≡ round.number
  pub first : lane_at driven 0 ≡ before ++ lane_at round 0
  pub others : (lane : ℕ) → lane ≢ 0 → lane_at driven lane ≡ lane_at round lane

-- the plan of an answer, if it has one
abbrev pub planned_in : Answer → Option Planned
planned_in answer.Overflow = None
planned_in (answer.Planned planned) = Some planned

-- the first plan among entries, if a batch was closed with one
abbrev pub plan_in : List Entry → Option Planned
plan_in [] = None
plan_in (entry ∷ entries) = option_or (option_and_then (λ closed. planned_in closed.1.answer) (closed_outcome entry.command entry.reply)) (plan_in entries)

-- what a plan has for a vehicle: the stops of its chosen trip, and the origin of the rider whom its move names
abbrev pub planned_course : List BookRider → Planned → Vehicle → Course
planned_course riders planned v = record {
  stops = option_map_or (λ trip. trip.stops) (look_up (λ trip. trip.vehicle) v.id planned.chosen) (record { items = [] });
  target = option_and_then (λ move. option_map (λ r. r.origin) (find_rider move.rider riders)) (look_up (λ move. move.vehicle) v.id planned.moves);
}

-- what a seal leaves on its way: the stops that weren't due
abbrev pub left_course : Option ℕ → Course → Course
left_course None course = course
left_course (Some now) course = record course { stops = record { items = to_come now course.stops.items } }

-- what is on its way after a round that leaves this state: a plan ends what was on its way before
abbrev pub courses_after : State → NumberedLanes → List Entry → List Course → List Course
courses_after s round entries courses =
    option_map_or (λ planned. map (planned_course s.riders planned) s.vehicles) (plan_in entries) (map (left_course (seal_of round)) courses)

-- the number above that of the last round
abbrev pub number_after : List NumberedLanes → ℕ
number_after [] = 0
number_after (round ∷ []) = round.number + 1
number_after (round ∷ rounds) = number_after rounds

module _ (settings : Settings) (roads : Roads) where
  -- the book of a fleet before its first round, over these roads and with this longest wait
  pub record IsNewBook (b : BookView) : Type 0 where
    pub vehicles : List Vehicle
    pub fleet : IsFleet vehicles
    pub nodes : b.nodes ≡ roads.nodes
    pub wait : b.wait ≡ settings.wait
    pub first : b.first ≡ 0
    pub entries : b.entries ≡ []
    pub base : b.base ≡ opening vehicles
    pub state : b.state ≡ opening vehicles

  -- a round as it is driven from a state: before its seal, if it has one, all vehicles are entered, each second in time
  abbrev pub IsDrivenRound : State → List Course → NumberedLanes → NumberedLanes → Type 0
  IsDrivenRound s courses round driven =
      MatchOption (seal_of round) (IsPrecededBy [] round driven)
      (λ now. (entered : List Command) × AreEntered roads settings.dwell now s.vehicles courses entered × All (λ c. second_of c ≤ longest) entered × IsPrecededBy entered round driven)

  -- rounds as they are driven, one after the other, where these are the journals that they make
  abbrev pub AreDriven : List Course → List NumberedLanes → List NumberedLanes → List Journal → Type 0
  AreDriven courses [] [] [] = Unit {0}
  AreDriven courses (round ∷ rounds) (driven ∷ script) (j ∷ journals) =
      IsDrivenRound j.base courses round driven × AreDriven (courses_after (state_after roads.nodes settings.wait j.base j.entries) round j.entries courses) rounds script journals
  AreDriven courses rounds script journals = ⊥

  -- what is on its way after rounds
  abbrev pub courses_left : List Course → List NumberedLanes → List Journal → List Course
  courses_left courses (round ∷ rounds) (j ∷ journals) = courses_left (courses_after (state_after roads.nodes settings.wait j.base j.entries) round j.entries courses) rounds journals
  courses_left courses rounds journals = courses

  -- at first nothing is on its way
  abbrev pub first_courses : State → List Course
  first_courses s = map (λ v. record { stops = record { items = [] }; target = None }) s.vehicles

  -- what is on its way after journals of rounds, from a state
  abbrev pub courses_from : State → List NumberedLanes → List DayRound → List Course
  courses_from s rounds made = courses_left (first_courses s) rounds (map (λ r. r.journal) made)

  -- journals that are a run of rounds as they are driven, from a state, and of one more round: of the stops that are left,
  -- numbered one above the last
  pub record HasDrivenToTheEnd (s : State) (rounds : List NumberedLanes) (made : List DayRound) : Type 0 where
    pub first : List DayRound
    pub last : DayRound
    pub parts : made ≡ first ++ last ∷ []
    pub script : List NumberedLanes
    pub end : NumberedLanes
    pub driven : AreDriven (first_courses s) rounds script (map (λ r. r.journal) first)
    pub left : IsPrecededBy (left_commands last.journal.base.vehicles (courses_from s rounds first)) (empty_round (number_after rounds)) end
    pub in_time : All (λ c. second_of c ≤ longest) (left_commands last.journal.base.vehicles (courses_from s rounds first))
    pub numbers : map (λ r. r.number) made ≡ map (λ r. r.number) rounds ++ number_after rounds ∷ []
    pub run : IsRun settings roads s 0 (script ++ end ∷ []) (map (λ r. r.journal) made)

  -- journals that are a run of a day's driven script; of an empty day there is none
  abbrev pub IsDrivenDay : State → List NumberedLanes → List DayRound → Type 0
  IsDrivenDay s [] made = made ≡ []
  IsDrivenDay s rounds made = HasDrivenToTheEnd s rounds made

  -- a second above 1,000,000,000 is entered into the next round of a day: before its seal, or as a stop that is left
  abbrev pub ComesTooLate : List Vehicle → List Course → List NumberedLanes → ℕ → Type 0
  ComesTooLate vehicles courses [] number = Any (λ c. longest < second_of c) (left_commands vehicles courses)
  ComesTooLate vehicles courses (round ∷ rounds) number =
      (round.number ≡ number) × ((now : ℕ) × (seal_of round ≡ Some now) × EntersTooLate roads settings.dwell now vehicles courses)

  -- a day that is too late at a round: these journals are a run of the rounds before it as they are driven, from a state
  pub record IsTooLateDay (s : State) (rounds : List NumberedLanes) (number : ℕ) (made : List DayRound) : Type 0 where
    pub before : List NumberedLanes
    pub rest : List NumberedLanes
    pub parts : rounds ≡ before ++ rest
    pub script : List NumberedLanes
    pub driven : AreDriven (first_courses s) before script (map (λ r. r.journal) made)
    pub numbers : map (λ r. r.number) made ≡ map (λ r. r.number) before
    pub run : IsRun settings roads s 0 script (map (λ r. r.journal) made)
    pub late : ComesTooLate (state_after_run settings roads s (map (λ r. r.journal) made)).vehicles (courses_from s before made) rest number
    pub end : rest ≡ [] → number ≡ number_after rounds

  -- why a day isn't driven to its end, by the rounds that were taken
  abbrev pub IsLateAnswer : (List DayRound → Type 0) → State → List NumberedLanes → DriveFault → Type 0
  IsLateAnswer Took s rounds (TooLate number) = (made : List DayRound) × Took made × IsTooLateDay s rounds number made
  IsLateAnswer Took s rounds OutOfMemory = Unit {0}
