use Rattle.std.specs.Prelude.{ℕ, ◌≢◌}
use Rattle.input_rows.specs.declared.fleet.fault.FleetFault.TheVariants as fleet
use Rattle.pool_io.specs.declared.input.Input.TheVariants.{Rows, Own}
use Rattle.pool_io.specs.declared.records.RowFault.TheVariants as row
use Rattle.report_audit.specs.declared.report.fault.AuditFault.TheVariants as audit
use Rattle.road_network.specs.declared.fault.NetworkFault.TheVariants as network
use Rattle.input_rows.specs.declared.script.fault.ScriptFault.TheVariants as script
use Rattle.ridepool.specs.declared.status.RunStatus.{RunStatus}
use Rattle.ridepool.specs.declared.status.RunStatus.TheVariants.{Done, Words, Network, Fleet, Script, LongHeader, TooLong, ReadFault, WriteFault, OutOfMemory, Day, TooLate, Report}

-- the exit status
abbrev pub code_of : RunStatus → ℕ
code_of Done = 0
code_of (Words fault) = 2
code_of (Network fault) = 3
code_of (Fleet fault) = 4
code_of (Script fault) = 5
code_of LongHeader = 5
code_of (TooLong which) = 6
code_of (ReadFault which) = 7
code_of WriteFault = 8
code_of OutOfMemory = 9
code_of (Day fault) = 11
code_of (TooLate round) = 12
code_of (Report fault) = 13

-- want of memory stands inside no other status
abbrev pub HidesNoMemory : RunStatus → Type 0
HidesNoMemory (Network (Rows fault)) = fault ≢ row.OutOfMemory
HidesNoMemory (Network (Own fault)) = fault ≢ network.OutOfMemory
HidesNoMemory (Fleet (Rows fault)) = fault ≢ row.OutOfMemory
HidesNoMemory (Fleet (Own fault)) = fault ≢ fleet.OutOfMemory
HidesNoMemory (Script (Rows fault)) = fault ≢ row.OutOfMemory
HidesNoMemory (Script (Own fault)) = fault ≢ script.OutOfMemory
HidesNoMemory (Report fault) = fault ≢ audit.OutOfMemory
HidesNoMemory _ = Unit {0}
