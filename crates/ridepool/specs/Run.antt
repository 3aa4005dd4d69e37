-- What a call of `run` answers.
use Rattle.std.specs.Prelude.{◌≡◌, ℕ, List, length, take, ◌⊎◌}
use Rattle.dispatch_engine.specs.lanes.Run.{position_after_run}
use Rattle.dispatch_report.specs.Head.{head_text}
use Rattle.dispatch_report.specs.Round.{round_text, end_text}
use Rattle.rider_limits.specs.declared.settings.Settings.{Settings}
use Rattle.route_drive.specs.declared.day_run.DayRound.{DayRound}
use Rattle.ridepool.specs.Inputs.{Inputs, TellInputs, HasNoWriteFault, StopsOrReads}
use Rattle.ridepool.specs.Report.{EndsText, RunsRounds, journals_of}
use Rattle.pool_io.specs.Views.{IsUntouched}
use Rattle.ridepool.specs.CallView.{CallView}
use Rattle.ridepool.specs.declared.status.RunStatus.{RunStatus}
use Rattle.ridepool.specs.declared.status.RunStatus.TheVariants.{Done, OutOfMemory}

-- some first rounds of the script were run
abbrev pub RunsSome : Inputs → List DayRound → Type 0
RunsSome i made = (count : ℕ) × RunsRounds i (take count i.rounds) made

-- all of them were run, and these are the last lines
abbrev pub RunsScript : Inputs → List DayRound → List ℕ → Type 0
RunsScript i made end = RunsRounds i i.rounds made × (end ≡ end_text (position_after_run 0 (journals_of made)))

-- what a call of `run` answers
pub record AnswersRun (settings : Settings) (seen : CallView) (status : RunStatus) : Type 0 where
  -- it stopped at its sources; or they were read, and the report of a run of the script is written, or a beginning of it
  pub explained : StopsOrReads settings seen status (λ i. IsUntouched seen.sources.report
      × EndsText i.settings i.roads (λ r. round_text r.number i.settings.proof r.journal) (head_text i.settings i.roads (length i.vehicles)) (RunsSome i) (RunsScript i) seen status)
  -- where the sources tell inputs, and no read and no write fails, all is done or there is no memory
  pub complete : (i : Inputs) → TellInputs seen.sources i → HasNoWriteFault seen → (status ≡ Done) ⊎ (status ≡ OutOfMemory)
