-- What comes of an audit whose inputs pass.
use Rattle.std.specs.Prelude.{◌≡◌, ◌≢◌, ℕ, List, Option}
use Rattle.std.specs.Io.KnownBytes.{Appends}
use Rattle.pool_io.specs.Views.{Change, SourceView}
use Rattle.pool_base.specs.declared.which.Which.TheVariants as file
use Rattle.report_audit.specs.declared.report.fault.Audited.{Audited}
use Rattle.report_audit.specs.declared.report.fault.AuditFault.TheVariants as audit
use Rattle.ridepool.specs.Audit.{yes_text}
use Rattle.ridepool.specs.work.Ended.{IsRunReport, IsNoReport}
use Rattle.ridepool.specs.Inputs.{Inputs, Reads}
use Rattle.ridepool.specs.declared.status.RunStatus.{RunStatus}
use Rattle.ridepool.specs.declared.status.RunStatus.TheVariants.{OutOfMemory, Report}
use Rattle.ridepool.specs.work.Reading.{IsUnread}
use Rattle.ridepool.specs.work.Writing.{IsTextFault}

-- a sink is as it was: its bytes, and the number of its faults
pub record IsSameSink (before after : Option (List ℕ)) (low high : ℕ) : Type 0 where
  pub bytes : after ≡ before
  pub faults : high ≡ low

-- why bytes are no report of a run
abbrev pub RefusesBytes : Inputs → List ℕ → RunStatus → Type 0
RefusesBytes i bytes (Report fault) = (fault ≢ audit.OutOfMemory) × IsNoReport i bytes fault
RefusesBytes i bytes OutOfMemory = Unit {0}
RefusesBytes i bytes _ = ⊥

-- the report was read, is that of a run, and the line that says so is written
pub record WritesYes (i : Inputs) (report : Change SourceView) (before after : Option (List ℕ)) : Type 0 where
  pub audited : Audited
  pub read : Reads file.Report report (λ bytes. IsRunReport i bytes audited)
  pub text : Appends before after (yes_text audited)

-- why not: the report wasn't read, or is none of a run or isn't judged, or the line wasn't written
pub data IsAuditFault (i : Inputs) (report : Change SourceView) (before after : Option (List ℕ)) (low high : ℕ) : RunStatus → Type 0 where
  unread : (status : RunStatus) → IsUnread report file.Report status → IsSameSink before after low high → IsAuditFault i report before after low high status
  refused : (status : RunStatus) (bytes : List ℕ) → Reads file.Report report (λ came. came ≡ bytes) → RefusesBytes i bytes status → IsSameSink before after low high
      → IsAuditFault i report before after low high status
  unwritten : (status : RunStatus) (audited : Audited) → Reads file.Report report (λ bytes. IsRunReport i bytes audited)
      → IsTextFault (yes_text audited) before after low high status → IsAuditFault i report before after low high status
