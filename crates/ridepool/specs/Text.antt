-- The line on standard error that tells why a run ended.
use Rattle.std.specs.Prelude.{ℕ, List, [], ◌++◌, codes}
use Rattle.dispatch_report.specs.Words.{numbered}
use Rattle.input_rows.specs.declared.fleet.fault.FleetFault.{FleetFault}
use Rattle.input_rows.specs.declared.fleet.fault.FleetFault.TheVariants as fleet
use Rattle.input_rows.specs.declared.live.judge.RowRefusal.{RowRefusal}
use Rattle.input_rows.specs.declared.live.judge.RowRefusal.TheVariants as refusal
use Rattle.pool_base.specs.Which.{file_name}
use Rattle.pool_base.specs.declared.which.Which.{Which}
use Rattle.pool_io.specs.declared.input.Input.{Input}
use Rattle.pool_io.specs.declared.input.Input.TheVariants.{Rows, Own}
use Rattle.pool_io.specs.declared.records.RowFault.{RowFault}
use Rattle.pool_io.specs.declared.records.RowFault.TheVariants as row
use Rattle.report_audit.specs.declared.report.fault.AuditFault.{AuditFault}
use Rattle.report_audit.specs.points.Verdict.{point_place}
use Rattle.report_audit.specs.declared.report.fault.AuditFault.TheVariants as audit
use Rattle.rider_limits.specs.declared.word_fault.WordFault.{WordFault}
use Rattle.rider_limits.specs.declared.word_fault.WordFault.TheVariants as word
use Rattle.road_network.specs.declared.fault.NetworkFault.{NetworkFault}
use Rattle.road_network.specs.declared.fault.NetworkFault.TheVariants as network
use Rattle.route_drive.specs.declared.day.DayFault.{DayFault}
use Rattle.route_drive.specs.declared.day.DayFault.TheVariants as day
use Rattle.input_rows.specs.declared.script.fault.ScriptFault.{ScriptFault}
use Rattle.input_rows.specs.declared.script.fault.ScriptFault.TheVariants as script
use Rattle.ridepool.specs.Inputs.{most_bytes}
use Rattle.ridepool.specs.declared.status.RunStatus.{RunStatus}
use Rattle.ridepool.specs.declared.status.RunStatus.TheVariants.{Done, Words, Network, Fleet, Script, LongHeader, TooLong, ReadFault, WriteFault, OutOfMemory, Day, TooLate, Report}

-- a number that isn't one, by its row and its column
unfoldable pub at_place : ℕ → ℕ → List ℕ
at_place row column = numbered (codes "bad number at row ") row ++ numbered (codes " column ") column

-- more bytes than may be
unfoldable pub longer_than : ℕ → List ℕ
longer_than most = numbered (codes "longer than ") most ++ codes " bytes"

-- an input is too long
abbrev pub too_long_text : Which → List ℕ
too_long_text w = file_name w ++ codes ": " ++ longer_than (most_bytes w)

-- why words are refused
abbrev pub word_text : WordFault → List ℕ
word_text word.NoCommand = codes "no command"
word_text (word.UnknownKey n) = numbered (codes "unknown key at word ") n
word_text (word.Repeated n) = numbered (codes "repeated key at word ") n
word_text (word.BadValue n) = numbered (codes "bad value at word ") n
word_text (word.MissingFile w) = codes "missing " ++ file_name w

-- why bytes are no rows
abbrev pub row_text : RowFault → List ℕ
row_text (row.Header n) = numbered (codes "wrong header of ") n ++ codes " fields"
row_text (row.UnequalLength n) = numbered (codes "row ") n ++ codes " has another length"
row_text row.OutOfMemory = codes "out of memory"

-- why rows are no network
abbrev pub network_text : NetworkFault → List ℕ
network_text network.TooManyArcs = codes "more than 400000 arcs"
network_text (network.Number r c) = at_place r c
network_text (network.ArcTooLong r) = numbered (codes "arc too long at row ") r
network_text (network.TooManyNodes r) = numbered (codes "more than 100000 nodes at row ") r
network_text network.OutOfMemory = codes "out of memory"

-- why rows are no fleet
abbrev pub fleet_text : FleetFault → List ℕ
fleet_text fleet.TooManyVehicles = codes "more than 500 vehicles"
fleet_text (fleet.Number r c) = at_place r c
fleet_text (fleet.Seats r) = numbered (codes "bad seats at row ") r
fleet_text (fleet.UnknownNode r) = numbered (codes "unknown node at row ") r
fleet_text (fleet.Duplicate r) = numbered (codes "repeated vehicle at row ") r
fleet_text fleet.OutOfMemory = codes "out of memory"

-- why rows are no script
abbrev pub script_text : ScriptFault → List ℕ
script_text script.TooManyRows = codes "more than 200000 rows"
script_text (script.Number r c) = at_place r c
script_text (script.LaneRange r) = numbered (codes "lane above 15 at row ") r
script_text (script.RoundBack r) = numbered (codes "round goes back at row ") r
script_text (script.UnknownCommand r) = numbered (codes "unknown command at row ") r
script_text (script.ExtraField r) = numbered (codes "field not empty at row ") r
script_text (script.SealLane r) = numbered (codes "seal outside lane 0 at row ") r
script_text (script.Party r) = numbered (codes "bad party at row ") r
script_text script.OutOfMemory = codes "out of memory"

-- the same fault of another row
abbrev pub at_row : ℕ → ScriptFault → ScriptFault
at_row n (script.Number r c) = script.Number n c
at_row n (script.LaneRange r) = script.LaneRange n
at_row n (script.RoundBack r) = script.RoundBack n
at_row n (script.UnknownCommand r) = script.UnknownCommand n
at_row n (script.ExtraField r) = script.ExtraField n
at_row n (script.SealLane r) = script.SealLane n
at_row n (script.Party r) = script.Party n
at_row n script.TooManyRows = script.TooManyRows
at_row n script.OutOfMemory = script.OutOfMemory

-- why a row that came alone is refused, by its number
abbrev pub refused_row_text : ℕ → RowRefusal → List ℕ
refused_row_text n refusal.TooLong = numbered (codes "row ") n ++ codes " is too long"
refused_row_text n refusal.UnequalLength = row_text (row.UnequalLength n)
refused_row_text n (refusal.Own fault) = script_text (at_row n fault)

-- why a script is no day
abbrev pub day_text : DayFault → List ℕ
day_text (day.Command round lane) = numbered (codes "command at round ") round ++ numbered (codes " lane ") lane
day_text (day.Seals round) = numbered (codes "seals at round ") round
day_text (day.SealBack round) = numbered (codes "seal goes back at round ") round

-- why a report is none of a run of the script
abbrev pub audit_text : AuditFault → List ℕ
audit_text (audit.Cut n) = numbered (codes "cut at line ") n
audit_text (audit.Form n) = numbered (codes "bad form at line ") n
audit_text (audit.Head n) = numbered (codes "wrong head at line ") n
audit_text (audit.Entry n) = numbered (codes "wrong entry at line ") n
audit_text (audit.Batch n point) = numbered (codes "wrong batch at line ") n ++ numbered (codes " point ") (point_place point)
audit_text audit.OutOfMemory = codes "out of memory"

-- the fault of an input: of its rows, or of what they say
abbrev pub input_text : {F : Type 0} → (F → List ℕ) → Input F → List ℕ
input_text own (Rows fault) = row_text fault
input_text own (Own fault) = own fault

-- why a run ended; nothing where all is done
abbrev pub status_text : RunStatus → List ℕ
status_text Done = []
status_text (Words fault) = codes "words: " ++ word_text fault
status_text (Network fault) = codes "network: " ++ input_text network_text fault
status_text (Fleet fault) = codes "fleet: " ++ input_text fleet_text fault
status_text (Script fault) = codes "script: " ++ input_text script_text fault
status_text LongHeader = codes "script: header: " ++ longer_than 65536
status_text (TooLong w) = too_long_text w
status_text (ReadFault w) = file_name w ++ codes ": read failed"
status_text WriteFault = codes "report: write failed"
status_text OutOfMemory = codes "out of memory"
status_text (Day fault) = codes "script: " ++ day_text fault
status_text (TooLate round) = numbered (codes "script: day too late at round ") round
status_text (Report fault) = codes "report: " ++ audit_text fault
