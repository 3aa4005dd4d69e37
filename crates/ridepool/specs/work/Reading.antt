-- What the readers of sources and of bytes say.
use Rattle.std.specs.Prelude.{◌≡◌, ℕ, List, Some, Result, Err, IfErr, MatchResult, ◌⊎◌}
use Rattle.input_rows.specs.made.Texts.{texts_of}
use Rattle.pool_base.specs.declared.which.Which.{Which}
use Rattle.pool_io.specs.Faults.{Rose}
use Rattle.pool_io.specs.declared.input.Input.{Input}
use Rattle.rider_limits.specs.declared.settings.Mode.{Mode}
use Rattle.rider_limits.specs.declared.settings.Mode.TheVariants.{Load, Drive}
use Rattle.rider_limits.specs.declared.settings.Settings.{Settings}
use Rattle.route_drive.specs.Day.{day_fault}
use Rattle.route_drive.specs.declared.day.DayFault.{DayFault}
use Rattle.input_rows.specs.script.Round.{NumberedLanes}
use Rattle.input_rows.specs.declared.script.fault.ScriptFault.{ScriptFault}
use Rattle.ridepool.specs.Status.{HidesNoMemory}
use Rattle.ridepool.specs.Inputs.{Inputs, IsWithin, IsSourceTooLong, Reads, AreReadFrom, AreUntouched, IsStop}
use Rattle.ridepool.specs.Load.{AreTexts}
use Rattle.ridepool.specs.Reading.{network_in, vehicles_in}
use Rattle.pool_io.specs.Views.{Change, SourceView}
use Rattle.ridepool.specs.CallView.{Sources}
use Rattle.ridepool.specs.declared.inputs.ReadInputs.{ReadInputs}
use Rattle.ridepool.specs.declared.status.RunStatus.{RunStatus}
use Rattle.ridepool.specs.declared.status.RunStatus.TheVariants.{Network, Fleet, Script, TooLong, ReadFault, OutOfMemory, Day}
use Rattle.ridepool.specs.work.Writing.{IsDayFor}

-- why a source wasn't read to its end
pub data IsUnread (s : Change SourceView) (which : Which) : RunStatus → Type 0 where
  long : IsSourceTooLong which s → IsUnread s which (TooLong which)
  failed : IsWithin which s → Rose s.before.faults s.after.faults → IsUnread s which (ReadFault which)
  memory : IsWithin which s → IsUnread s which OutOfMemory

-- why a source stopped a run: it wasn't read to its end, or what was read is refused
pub data StopsAt {A F : Type 0} (s : Change SourceView) (which : Which) (refusal : Input F → RunStatus) (read : List ℕ → Result A (Input F)) : RunStatus → Type 0 where
  unread : (status : RunStatus) → IsUnread s which status → StopsAt s which refusal read status
  refused : (fault : Input F) → Reads which s (λ bytes. read bytes ≡ Err fault) → HidesNoMemory (refusal fault) → StopsAt s which refusal read (refusal fault)

-- why bytes are no network, no fleet, no script
abbrev pub RefusesNetwork : List ℕ → RunStatus → Type 0
RefusesNetwork bytes (Network fault) = network_in bytes ≡ Err fault
RefusesNetwork bytes OutOfMemory = Unit {0}
RefusesNetwork bytes _ = ⊥

abbrev pub RefusesFleet : List ℕ → List ℕ → RunStatus → Type 0
RefusesFleet nodes bytes (Fleet fault) = vehicles_in nodes bytes ≡ Err fault
RefusesFleet nodes bytes OutOfMemory = Unit {0}
RefusesFleet nodes bytes _ = ⊥

abbrev pub RefusesRounds : Result (List NumberedLanes) (Input ScriptFault) → RunStatus → Type 0
RefusesRounds read (Script fault) = read ≡ Err fault
RefusesRounds read OutOfMemory = Unit {0}
RefusesRounds read _ = ⊥

-- the inputs of a call
abbrev pub inputs_got : Settings → ReadInputs → Inputs
inputs_got settings got = record { settings = settings; roads = got.network; vehicles = got.fleet; rounds = got.script }

-- what came of the sources
pub record ReadSources (s : Sources) (result : Result ReadInputs RunStatus) : Type 0 where
  pub inputs : MatchResult result
      (λ got. (settings : Settings) → AreReadFrom s (inputs_got settings got))
      (IsStop s)
  pub refused : IfErr result HidesNoMemory

-- the sources were read, and their script is no day
abbrev pub IsReadAsNoDay : Sources → DayFault → Type 0
IsReadAsNoDay s fault = (i : Inputs) × AreReadFrom s i × (day_fault i.rounds ≡ Some fault)

-- the inputs by the command: of a made workload what its texts give, else what the sources were read as
abbrev pub AreInputs : Mode → Sources → Inputs → Type 0
AreInputs (Load shape) s i = AreTexts (texts_of shape) i × AreUntouched s
AreInputs mode s i = AreReadFrom s i × IsDayFor mode i.rounds

-- why there are no inputs, by the command
abbrev pub IsNoInput : Mode → Sources → RunStatus → Type 0
IsNoInput (Load shape) s status = AreUntouched s × (status ≡ OutOfMemory)
IsNoInput Drive s status = IsStop s status ⊎ ((fault : DayFault) × (status ≡ Day fault) × IsReadAsNoDay s fault)
IsNoInput mode s status = IsStop s status

-- what came of the inputs
pub record GotInputs (settings : Settings) (s : Sources) (result : Result ReadInputs RunStatus) : Type 0 where
  pub inputs : MatchResult result
      (λ got. AreInputs settings.mode s (inputs_got settings got))
      (IsNoInput settings.mode s)
  pub refused : IfErr result HidesNoMemory
