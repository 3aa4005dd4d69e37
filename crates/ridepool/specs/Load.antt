-- What a call of `load` answers.
use Rattle.std.specs.Prelude.{◌≡◌, Ok, ◌⊎◌}
use Rattle.dispatch_report.specs.Summary.{load_text, summary_text}
use Rattle.input_rows.specs.made.Texts.{Texts, texts_of}
use Rattle.rider_limits.specs.declared.load_shape.LoadShape.{LoadShape}
use Rattle.rider_limits.specs.declared.settings.Settings.{Settings}
use Rattle.ridepool.specs.Inputs.{Inputs, AreUntouched, HasNoWriteFault}
use Rattle.ridepool.specs.Reading.{network_in, IsFleetIn, script_in}
use Rattle.ridepool.specs.Report.{EndsText}
use Rattle.ridepool.specs.Run.{RunsSome, RunsScript}
use Rattle.ridepool.specs.CallView.{IsSilent, CallView}
use Rattle.ridepool.specs.declared.status.RunStatus.{RunStatus}
use Rattle.ridepool.specs.declared.status.RunStatus.TheVariants.{Done, OutOfMemory}

-- three texts give these inputs
pub record AreTexts (t : Texts) (i : Inputs) : Type 0 where
  pub network : network_in t.network ≡ Ok i.roads
  pub fleet : IsFleetIn i.roads.nodes t.fleet i.vehicles
  pub script : script_in t.script ≡ Ok i.rounds

-- what a call of `load` answers
pub record AnswersLoad (shape : LoadShape) (settings : Settings) (seen : CallView) (status : RunStatus) : Type 0 where
  pub untouched : AreUntouched seen.sources
  -- there was no memory for its inputs; or they are what the texts of the shape give, and the summary of a run of the made script is
  -- written, or a beginning of it: the shape, a line for each batch, and the last line
  pub explained : ((status ≡ OutOfMemory) × IsSilent seen) ⊎ ((i : Inputs) × (i.settings ≡ settings) × AreTexts (texts_of shape) i
      × EndsText i.settings i.roads (λ r. summary_text r.journal) (load_text shape) (RunsSome i) (RunsScript i) seen status)
  -- where no write fails, all is done or there is no memory
  pub complete : HasNoWriteFault seen → (status ≡ Done) ⊎ (status ≡ OutOfMemory)
