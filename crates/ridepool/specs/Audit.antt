-- What a call of `audit` answers of a printed report.
use Rattle.std.specs.Prelude.{◌≡◌, ℕ, List, [], ◌∷◌, ◌++◌, codes, ◌⊎◌}
use Rattle.std.specs.Io.KnownBytes.{Appends}
use Rattle.dispatch_report.specs.Lines.{lines_text}
use Rattle.dispatch_report.specs.Words.{numbered}
use Rattle.pool_base.specs.declared.which.Which.TheVariants as file
use Rattle.pool_io.specs.Faults.{Rose}
use Rattle.pool_io.specs.Sink.{AppendsPart}
use Rattle.report_audit.specs.report.Fault.{HasFault}
use Rattle.report_audit.specs.report.Report.{IsReportOfRun, IsAudited}
use Rattle.report_audit.specs.declared.report.fault.AuditFault.{AuditFault}
use Rattle.report_audit.specs.declared.report.fault.Audited.{Audited}
use Rattle.rider_limits.specs.declared.settings.Settings.{Settings}
use Rattle.ridepool.specs.Inputs.{Inputs, AreReadFrom, TellInputs, HasNoWriteFault, IsSourceTooLong, IsWithin, Reads, StopsOrReads, Tells}
use Rattle.pool_io.specs.Views.{IsUntouched}
use Rattle.ridepool.specs.CallView.{IsSilent, CallView}
use Rattle.ridepool.specs.declared.status.RunStatus.{RunStatus}
use Rattle.ridepool.specs.declared.status.RunStatus.TheVariants.{Done, TooLong, ReadFault, WriteFault, OutOfMemory, Report}

-- the line that says yes: how many entries and batches there are
unfoldable pub yes_text : Audited → List ℕ
yes_text audited = lines_text ((numbered (codes "audit ok entries ") audited.entries ++ numbered (codes " batches ") audited.batches) ∷ [])

-- bytes are the report of a run of the script
abbrev pub IsRightReport : Inputs → List ℕ → Type 0
IsRightReport i bytes = IsReportOfRun i.roads i.vehicles i.rounds i.settings.workers bytes

-- the report was read, is that of a run with so many entries and batches, and this holds of the line that says so
pub record Confirms (i : Inputs) (seen : CallView) (Holds : List ℕ → Type 0) : Type 0 where
  pub audited : Audited
  pub read : Reads file.Report seen.sources.report (λ bytes. IsAudited i.roads i.vehicles i.rounds i.settings.workers bytes audited)
  pub line : Holds (yes_text audited)
  pub notifiers : IsUntouched seen.notifiers

-- the line is written, or of the line a beginning that isn't the whole; the report is that of no run, and this is wrong with it;
-- or it wasn't read to its end, or not judged for want of memory
pub data EndsAudit (i : Inputs) (seen : CallView) : RunStatus → Type 0 where
  confirmed : Confirms i seen (Appends seen.out.before.written seen.out.after.written) → EndsAudit i seen Done
  failed : Confirms i seen (AppendsPart seen.out.before.written seen.out.after.written) → Rose seen.out.before.faults seen.out.after.faults → EndsAudit i seen WriteFault
  unstored : Confirms i seen (AppendsPart seen.out.before.written seen.out.after.written) → EndsAudit i seen OutOfMemory
  refused : (fault : AuditFault)
      → Reads file.Report seen.sources.report (λ bytes. HasFault i.roads i.vehicles i.rounds i.settings.workers bytes fault × (IsRightReport i bytes → ⊥))
      → IsSilent seen → EndsAudit i seen (Report fault)
  too_long : IsSourceTooLong file.Report seen.sources.report → IsSilent seen → EndsAudit i seen (TooLong file.Report)
  unread : IsWithin file.Report seen.sources.report → Rose seen.sources.report.before.faults seen.sources.report.after.faults → IsSilent seen
      → EndsAudit i seen (ReadFault file.Report)
  unjudged : IsWithin file.Report seen.sources.report → IsSilent seen → EndsAudit i seen OutOfMemory

-- what a call of `audit` answers
pub record AnswersAudit (settings : Settings) (seen : CallView) (status : RunStatus) : Type 0 where
  -- it stopped at its sources, or they were read, and it ended so
  pub explained : StopsOrReads settings seen status (λ i. EndsAudit i seen status)
  -- where the sources tell inputs and a report of a run of what was read, and no read and no write fails, all is done or there is
  -- no memory
  pub complete : (i : Inputs) (bytes : List ℕ) → TellInputs seen.sources i → Tells file.Report seen.sources.report bytes
      → ((j : Inputs) → j.settings ≡ settings → AreReadFrom seen.sources j → IsRightReport j bytes)
      → HasNoWriteFault seen → (status ≡ Done) ⊎ (status ≡ OutOfMemory)
