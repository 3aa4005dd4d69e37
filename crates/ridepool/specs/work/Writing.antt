-- What stands where a report, or a part of it, is or isn't written.
use Rattle.std.specs.Prelude.{◌≡◌, ℕ, ◌≤◌, Bool, List, [], ◌∷◌, ◌++◌, None, length, map, take, Option}
use Rattle.std.specs.Io.KnownBytes.{Appends, Keeps}
use Rattle.dispatch_engine.specs.lanes.Run.{IsReady, IsRoundRun, IsRun, position_after_run}
use Rattle.dispatch_report.specs.Day.{day_end_text}
use Rattle.dispatch_report.specs.Head.{head_text}
use Rattle.dispatch_report.specs.Round.{end_text, round_text}
use Rattle.dispatch_report.specs.Summary.{load_text, summary_text}
use Rattle.dispatch_report.specs.declared.day.DayCounts.{DayCounts}
use Rattle.pool_io.specs.Faults.{Rose}
use Rattle.pool_io.specs.Sink.{AppendsPart}
use Rattle.request_book.specs.Book.{BookView, next_position, opening}
use Rattle.request_book.specs.Replay.{state_after}
use Rattle.request_book.specs.declared.values.journal.Journal.{Journal}
use Rattle.rider_limits.specs.declared.settings.Mode.{Mode}
use Rattle.rider_limits.specs.declared.settings.Mode.TheVariants.{Load, Drive}
use Rattle.rider_limits.specs.declared.settings.Settings.{Settings}
use Rattle.request_book.specs.notices.Notices.{notices}
use Rattle.request_book.specs.notices.Told.{NotifierView, HaveHeard}
use Rattle.road_network.specs.Roads.{Roads}
use Rattle.route_drive.specs.Day.{day_fault}
use Rattle.route_drive.specs.Driven.{IsTooLateDay}
use Rattle.route_drive.specs.Promises.{IsKeptDay}
use Rattle.route_drive.specs.declared.day_run.DayRound.{DayRound}
use Rattle.route_drive.specs.declared.day_run.DriveFault.{DriveFault}
use Rattle.route_drive.specs.declared.day_run.DriveFault.TheVariants as drive
use Rattle.input_rows.specs.script.Round.{NumberedLanes}
use Rattle.ridepool.specs.Inputs.{Inputs}
use Rattle.ridepool.specs.Drive.{DrivesDay}
use Rattle.ridepool.specs.Report.{journals_of, rounds_notices, IsCutShort, IsPart, IsWhole}
use Rattle.ridepool.specs.Run.{RunsScript, RunsSome}
use Rattle.dispatch_report.specs.declared.fault.ReportFault.{ReportFault}
use Rattle.dispatch_report.specs.declared.fault.ReportFault.TheVariants as report
use Rattle.ridepool.specs.declared.status.RunStatus.{RunStatus}
use Rattle.ridepool.specs.declared.status.RunStatus.TheVariants.{WriteFault, OutOfMemory, TooLate}
use Rattle.std.specs.List.{flat_map}

-- where vehicles are driven, these rounds are a day
abbrev pub IsDayFor : Mode → List NumberedLanes → Type 0
IsDayFor Drive rounds = day_fault rounds ≡ None
IsDayFor _ rounds = Unit {0}

-- the first lines: the head of a report, or the shape of a made workload
abbrev pub first_text : Mode → Settings → Roads → ℕ → List ℕ
first_text (Load shape) settings roads vehicles = load_text shape
first_text _ settings roads vehicles = head_text settings roads vehicles

-- what a round adds: its whole text, or of a made workload the lines of its batches
abbrev pub added_text : Mode → Bool → DayRound → List ℕ
added_text (Load shape) proof r = summary_text r.journal
added_text _ proof r = round_text r.number proof r.journal

abbrev pub added_by : Settings → DayRound → List ℕ
added_by settings = added_text settings.mode settings.proof

-- these are some first rounds of a call, and all with its last lines
abbrev pub AreFirstRounds : Mode → Inputs → List DayRound → Type 0
AreFirstRounds Drive i made = (rest : List DayRound) × IsKeptDay i.settings i.roads (opening i.vehicles) i.rounds (made ++ rest)
AreFirstRounds _ i made = RunsSome i made

abbrev pub AreAllRoundsWith : Mode → Inputs → List DayRound → List ℕ → Type 0
AreAllRoundsWith Drive i made end = DrivesDay i made end
AreAllRoundsWith _ i made end = RunsScript i made end

-- the first lines of a call's text
abbrev pub head_of : Inputs → List ℕ
head_of i = first_text i.settings.mode i.settings i.roads (length i.vehicles)

-- the text of a call is written whole
abbrev pub IsReportWhole : Inputs → Option (List ℕ) → Option (List ℕ) → List NotifierView → List NotifierView → Type 0
IsReportWhole i before after notifiers left =
    IsWhole i.settings i.roads (added_by i.settings) (head_of i) (AreFirstRounds i.settings.mode i) (AreAllRoundsWith i.settings.mode i) before after notifiers left

-- what rounds add, one after the other
abbrev pub rounds_text : Settings → List DayRound → List ℕ
rounds_text s made = flat_map (added_by s) made

-- the end of a run whose text wasn't written whole
abbrev pub status_of : ReportFault → RunStatus
status_of report.WriteFault = WriteFault
status_of report.OutOfMemory = OutOfMemory

-- the end of a call whose day isn't driven to its end
abbrev pub late_status : DriveFault → RunStatus
late_status (drive.TooLate round) = TooLate round
late_status drive.OutOfMemory = OutOfMemory

-- the last lines of a day
abbrev pub day_ending : DayCounts → List DayRound → List ℕ
day_ending run made = day_end_text run (position_after_run 0 (journals_of made))

-- a beginning of a text is written that isn't the whole: a write failed, or there was no memory
pub data IsTextFault (text : List ℕ) (before after : Option (List ℕ)) (low high : ℕ) : RunStatus → Type 0 where
  failed : Rose low high → AppendsPart before after text → IsTextFault text before after low high WriteFault
  unstored : AppendsPart before after text → IsTextFault text before after low high OutOfMemory

-- these are the first of some rounds
abbrev pub BeginsRounds : List DayRound → List DayRound → Type 0
BeginsRounds rounds made = (rest : List DayRound) × (made ++ rest ≡ rounds)

module _ (settings : Settings) (roads : Roads) where
  -- what a round adds is written, and its notices were told
  pub record PutsRound (r : DayRound) (before after : Option (List ℕ)) (notifiers left : List NotifierView) : Type 0 where
    pub text : Appends before after (added_by settings r)
    pub told : HaveHeard (notices roads.nodes settings.wait r.journal) notifiers left

  -- why a round wasn't put out: its text isn't written whole, or there was no memory for its notices; nobody was told
  -- anything of it
  pub data IsUnput (r : DayRound) (before after : Option (List ℕ)) (notifiers left : List NotifierView) (low high : ℕ) : RunStatus → Type 0 where
    unwritten : (status : RunStatus) → IsTextFault (added_by settings r) before after low high status → left ≡ notifiers
        → IsUnput r before after notifiers left low high status
    untold : Appends before after (added_by settings r) → left ≡ notifiers → IsUnput r before after notifiers left low high OutOfMemory

  -- what rounds add is written, and their notices were told
  pub record HasPut (made : List DayRound) (before after : Option (List ℕ)) (notifiers left : List NotifierView) : Type 0 where
    pub text : Appends before after (rounds_text settings made)
    pub told : HaveHeard (rounds_notices settings roads made) notifiers left

  -- of some rounds the first were put out, and the next wasn't
  pub record StopsIn (rounds : List DayRound) (before after : Option (List ℕ)) (notifiers left : List NotifierView) (low high : ℕ) (status : RunStatus) : Type 0 where
    pub made : List DayRound
    pub next : DayRound
    pub first : BeginsRounds rounds (made ++ next ∷ [])
    pub here : Option (List ℕ)
    pub heard : List NotifierView
    pub faults : ℕ
    pub puts : HasPut made before here notifiers heard
    pub up : low ≤ faults
    pub why : IsUnput next here after heard left faults high status

  -- a journal is a run of the round that a book comes to
  pub record NextJournal (book : BookView) (round : NumberedLanes) (journal : Journal) : Type 0 where
    pub run : IsRoundRun settings roads round journal
    pub first : journal.first ≡ book.first
    pub base : journal.base ≡ book.base

  -- the round of a journal
  abbrev pub made_of : NumberedLanes → Journal → DayRound
  made_of round journal = record { number = round.number; journal = journal }

  -- the round was run, its text written and its notices told; the book stands behind it
  pub record WritesRound (book : BookView) (round : NumberedLanes) (before after : Option (List ℕ)) (notifiers left : List NotifierView) (next : BookView) : Type 0 where
    pub journal : Journal
    pub is : NextJournal book round journal
    pub puts : PutsRound (made_of round journal) before after notifiers left
    pub ready : IsReady settings roads next
    pub first : next.first ≡ next_position book.first journal.entries
    pub base : next.base ≡ state_after roads.nodes settings.wait book.base journal.entries
    pub entries : next.entries ≡ []

  -- why a round wasn't run, written whole and told
  pub data IsRoundFault (book : BookView) (round : NumberedLanes) (before after : Option (List ℕ)) (notifiers left : List NotifierView) (low high : ℕ) : RunStatus → Type 0 where
    unrun : Keeps before after → left ≡ notifiers → IsRoundFault book round before after notifiers left low high OutOfMemory
    unput : (journal : Journal) (status : RunStatus) → NextJournal book round journal
        → IsUnput (made_of round journal) before after notifiers left low high status → IsRoundFault book round before after notifiers left low high status

  -- what was made is a run of some rounds from a book
  pub record RunsFrom (book : BookView) (rounds : List NumberedLanes) (made : List DayRound) : Type 0 where
    pub numbers : map (λ r. r.number) made ≡ map (λ r. r.number) rounds
    pub run : IsRun settings roads book.base book.first rounds (journals_of made)

  -- of the first of them
  abbrev pub RunsFirst : BookView → List NumberedLanes → List DayRound → Type 0
  RunsFirst book rounds made = (count : ℕ) × RunsFrom book (take count rounds) made

  -- of all of them, and these are its last lines
  abbrev pub RunsAll : BookView → List NumberedLanes → List DayRound → List ℕ → Type 0
  RunsAll book rounds made end = RunsFrom book rounds made × (end ≡ end_text (next_position (position_after_run book.first (journals_of made)) []))

  -- why a text isn't written whole, where these are its first lines, its first rounds, and all with its last lines
  pub data IsReportFault (head : List ℕ) (AreFirstRounds : List DayRound → Type 0) (AreAllRoundsWith : List DayRound → List ℕ → Type 0) (before after : Option (List ℕ)) (notifiers left : List NotifierView) (low high : ℕ) : RunStatus → Type 0 where
    failed : Rose low high → IsCutShort settings roads (added_by settings) head AreFirstRounds AreAllRoundsWith before after notifiers left → IsReportFault head AreFirstRounds AreAllRoundsWith before after notifiers left low high WriteFault
    unstored : IsPart settings roads (added_by settings) head AreFirstRounds AreAllRoundsWith before after notifiers left → IsReportFault head AreFirstRounds AreAllRoundsWith before after notifiers left low high OutOfMemory

-- these are the rounds, and these the last lines
abbrev pub EndsRounds : List DayRound → List ℕ → List DayRound → List ℕ → Type 0
EndsRounds rounds last made end = (made ≡ rounds) × (end ≡ last)

-- why the report of these inputs isn't written whole; or a day comes too late, and nothing is written
pub data IsWritingFault (i : Inputs) (before after : Option (List ℕ)) (notifiers left : List NotifierView) (low high : ℕ) : RunStatus → Type 0 where
  unwritten : (status : RunStatus) → IsReportFault i.settings i.roads (head_of i) (AreFirstRounds i.settings.mode i) (AreAllRoundsWith i.settings.mode i) before after notifiers left low high status
      → IsWritingFault i before after notifiers left low high status
  late : (round : ℕ) (made : List DayRound) → i.settings.mode ≡ Drive → IsTooLateDay i.settings i.roads (opening i.vehicles) i.rounds round made
      → after ≡ before → high ≡ low → left ≡ notifiers → IsWritingFault i before after notifiers left low high (TooLate round)
