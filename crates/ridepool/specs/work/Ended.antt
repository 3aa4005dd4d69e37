-- The ends of calls, and an audit's answers, as proofs call them.
use Rattle.std.specs.Prelude.{◌≡◌, ℕ, List, ◌⊎◌}
use Rattle.pool_base.specs.declared.which.Which.{Which}
use Rattle.report_audit.specs.report.Fault.{HasFault}
use Rattle.report_audit.specs.report.Report.{IsAudited}
use Rattle.report_audit.specs.declared.report.fault.AuditFault.{AuditFault}
use Rattle.report_audit.specs.declared.report.fault.Audited.{Audited}
use Rattle.ridepool.specs.Audit.{IsRightReport}
use Rattle.ridepool.specs.Inputs.{Inputs, IsWithin}
use Rattle.ridepool.specs.CallView.{Sources, source_at}
use Rattle.ridepool.specs.declared.status.RunStatus.{RunStatus}
use Rattle.ridepool.specs.declared.status.RunStatus.TheVariants.{TooLong}

-- the bytes are the report of a run of the script, with so many entries and batches
abbrev pub IsRunReport : Inputs → List ℕ → Audited → Type 0
IsRunReport i bytes audited = IsAudited i.roads i.vehicles i.rounds i.settings.workers bytes audited

-- the bytes fail in this way, and are the report of no run of the script
abbrev pub IsNoReport : Inputs → List ℕ → AuditFault → Type 0
IsNoReport i bytes fault =
    HasFault i.roads i.vehicles i.rounds i.settings.workers bytes fault × (IsRightReport i bytes → ⊥)

-- no more bytes than may be were taken from each source, and one more only where it is answered as too long
abbrev pub IsLimited : Sources → RunStatus → Type 0
IsLimited s status = (w : Which) → IsWithin w (source_at s w) ⊎ (status ≡ TooLong w)
