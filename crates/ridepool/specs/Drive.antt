-- What a call of `drive` answers.
use Rattle.std.specs.Prelude.{◌≡◌, ℕ, List, ◌++◌, None, Some, length, ◌⊎◌}
use Rattle.dispatch_engine.specs.lanes.Run.{position_after_run}
use Rattle.dispatch_report.specs.Day.{day_end_text}
use Rattle.dispatch_report.specs.Head.{head_text}
use Rattle.dispatch_report.specs.Round.{round_text}
use Rattle.dispatch_report.specs.declared.day.DayCounts.{DayCounts}
use Rattle.request_book.specs.Book.{opening}
use Rattle.rider_limits.specs.declared.settings.Settings.{Settings}
use Rattle.route_drive.specs.Day.{day_fault}
use Rattle.route_drive.specs.Driven.{IsTooLateDay}
use Rattle.route_drive.specs.Promises.{IsKeptDay, IsRunOfDay}
use Rattle.route_drive.specs.declared.day.DayFault.{DayFault}
use Rattle.route_drive.specs.declared.day_run.DayRound.{DayRound}
use Rattle.ridepool.specs.Inputs.{Inputs, TellInputs, HasNoWriteFault, StopsOrReads}
use Rattle.ridepool.specs.Report.{EndsText, journals_of}
use Rattle.pool_io.specs.Views.{IsUntouched}
use Rattle.ridepool.specs.CallView.{IsSilent, CallView}
use Rattle.ridepool.specs.declared.status.RunStatus.{RunStatus}
use Rattle.ridepool.specs.declared.status.RunStatus.TheVariants.{Done, OutOfMemory, Day, TooLate}

-- all rounds of a driven day that keeps its promises, and its last lines: its counts, and then how many entries there were
pub record DrivesDay (i : Inputs) (made : List DayRound) (text : List ℕ) : Type 0 where
  pub counts : DayCounts
  pub day : IsRunOfDay i.settings i.roads (opening i.vehicles) i.rounds made counts
  pub text_is : text ≡ day_end_text counts (position_after_run 0 (journals_of made))

-- the report of the day is written, or a beginning of it; or the script is no day; or something too late would be entered of a
-- round, and these are the rounds before it
pub data EndsDrive (i : Inputs) (seen : CallView) : RunStatus → Type 0 where
  driven : (status : RunStatus) → day_fault i.rounds ≡ None
      → EndsText i.settings i.roads (λ r. round_text r.number i.settings.proof r.journal) (head_text i.settings i.roads (length i.vehicles))
      (λ made. (rest : List DayRound) × IsKeptDay i.settings i.roads (opening i.vehicles) i.rounds (made ++ rest)) (DrivesDay i) seen status
      → EndsDrive i seen status
  no_day : (fault : DayFault) → day_fault i.rounds ≡ Some fault → IsSilent seen → EndsDrive i seen (Day fault)
  too_late : (round : ℕ) (made : List DayRound) → day_fault i.rounds ≡ None → IsTooLateDay i.settings i.roads (opening i.vehicles) i.rounds round made
      → IsSilent seen → EndsDrive i seen (TooLate round)

-- what a call of `drive` answers
pub record AnswersDrive (settings : Settings) (seen : CallView) (status : RunStatus) : Type 0 where
  -- it stopped at its sources, or they were read, and it ended so
  pub explained : StopsOrReads settings seen status (λ i. IsUntouched seen.sources.report × EndsDrive i seen status)
  -- where the sources tell a day, and no read and no write fails, all is done or there is no memory, or the day comes too late
  pub complete : (i : Inputs) → TellInputs seen.sources i → day_fault i.rounds ≡ None → HasNoWriteFault seen
      → (status ≡ Done) ⊎ (status ≡ OutOfMemory) ⊎ ((round : ℕ) × (status ≡ TooLate round))
