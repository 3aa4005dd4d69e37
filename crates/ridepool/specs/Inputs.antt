-- Where the inputs of a call come from, and where a call can stop at them.
use Rattle.std.specs.Prelude.{◌≡◌, ℕ, ◌+◌, ◌<◌, ◌≤◌, List, None, Some, length, Ok, Err, IfSome, ◌⊎◌}
use Rattle.std.specs.Io.KnownBytes.{IsAtEnd}
use Rattle.request_book.specs.declared.values.vehicle.Vehicle.{Vehicle}
use Rattle.pool_base.specs.declared.which.Which.{Which}
use Rattle.pool_base.specs.declared.which.Which.TheVariants as file
use Rattle.pool_io.specs.Faults.{Rose}
use Rattle.rider_limits.specs.Settings.{AreGiven}
use Rattle.rider_limits.specs.Words.{fault_of}
use Rattle.rider_limits.specs.declared.settings.Settings.{Settings}
use Rattle.road_network.specs.Roads.{Roads}
use Rattle.input_rows.specs.script.Round.{NumberedLanes}
use Rattle.ridepool.specs.Reading.{network_in, vehicles_in, IsFleetIn, script_in}
use Rattle.pool_io.specs.Views.{Change, IsUntouched, SourceView}
use Rattle.ridepool.specs.CallView.{IsSilent, CallView, Sources, source_at}
use Rattle.ridepool.specs.declared.status.RunStatus.{RunStatus}
use Rattle.ridepool.specs.declared.status.RunStatus.TheVariants.{Network, Fleet, Script, TooLong, ReadFault, OutOfMemory}

-- the words are good, and give these settings
pub record AreGood (words : List (List ℕ)) (settings : Settings) : Type 0 where
  pub faultless : fault_of words ≡ None
  pub given : AreGiven words settings

-- what a call works on
pub record Inputs : Type 0 where
  pub settings : Settings
  pub roads : Roads
  pub vehicles : List Vehicle
  pub rounds : List NumberedLanes

-- the greatest number of bytes of an input
abbrev pub most_bytes : Which → ℕ
most_bytes file.Report = 2147483648
most_bytes _ = 67108864

-- no more bytes than an input may have were taken from its source
abbrev pub IsWithin : Which → Change SourceView → Type 0
IsWithin which s = s.after.taken ≤ s.before.taken + most_bytes which

-- one byte more was taken, and where the source tells its bytes, there are so many
pub record IsSourceTooLong (which : Which) (s : Change SourceView) : Type 0 where
  pub taken : s.after.taken ≡ s.before.taken + (most_bytes which + 1)
  pub told : IfSome s.before.left (λ left. most_bytes which < length left)

-- the source of an input was read to its end, and this holds of its bytes, which are no more than may be
pub record Reads (which : Which) (s : Change SourceView) (Holds : List ℕ → Type 0) : Type 0 where
  pub bytes : List ℕ
  pub told : IfSome s.before.left (λ left. bytes ≡ left)
  pub ended : IsAtEnd s.after.left
  pub taken : s.after.taken ≡ s.before.taken + length bytes
  pub short : length bytes ≤ most_bytes which
  pub holds : Holds bytes

-- network, fleet and script were read as these inputs
pub record AreReadFrom (s : Sources) (i : Inputs) : Type 0 where
  pub network : Reads file.Network s.network (λ bytes. network_in bytes ≡ Ok i.roads)
  pub fleet : Reads file.Fleet s.fleet (λ bytes. IsFleetIn i.roads.nodes bytes i.vehicles)
  pub script : Reads file.Script s.script (λ bytes. script_in bytes ≡ Ok i.rounds)

-- no source is touched
pub record AreUntouched (s : Sources) : Type 0 where
  pub network : IsUntouched s.network
  pub fleet : IsUntouched s.fleet
  pub script : IsUntouched s.script
  pub report : IsUntouched s.report

-- a call came to one of the first three sources: those before it were read and pass, those behind it are untouched
abbrev pub CameTo : Sources → Which → Type 0
CameTo s file.Network = IsUntouched s.fleet × IsUntouched s.script × IsUntouched s.report
CameTo s file.Fleet = (roads : Roads) × Reads file.Network s.network (λ bytes. network_in bytes ≡ Ok roads) × IsUntouched s.script × IsUntouched s.report
CameTo s file.Script =
    (roads : Roads) × (vehicles : List Vehicle) × Reads file.Network s.network (λ bytes. network_in bytes ≡ Ok roads)
    × Reads file.Fleet s.fleet (λ bytes. IsFleetIn roads.nodes bytes vehicles) × IsUntouched s.report
CameTo s file.Report = ⊥

-- why a call stopped at one of them: what was read is refused, or there was more than may be, or a read failed, or there was no memory
abbrev pub IsStop : Sources → RunStatus → Type 0
IsStop s (Network fault) = CameTo s file.Network × Reads file.Network s.network (λ bytes. network_in bytes ≡ Err fault)
IsStop s (Fleet fault) = (came : CameTo s file.Fleet) × Reads file.Fleet s.fleet (λ bytes. vehicles_in came.0.nodes bytes ≡ Err fault)
IsStop s (Script fault) = CameTo s file.Script × Reads file.Script s.script (λ bytes. script_in bytes ≡ Err fault)
IsStop s (TooLong w) = CameTo s w × IsSourceTooLong w (source_at s w)
IsStop s (ReadFault w) = CameTo s w × IsWithin w (source_at s w) × Rose (source_at s w).before.faults (source_at s w).after.faults
IsStop s OutOfMemory = (w : Which) × CameTo s w × IsWithin w (source_at s w)
IsStop s _ = ⊥

-- a call with these settings stopped at its sources, with nothing written and nobody told; or they were read as inputs of which
-- this holds
abbrev pub StopsOrReads : Settings → CallView → RunStatus → (Inputs → Type 0) → Type 0
StopsOrReads settings seen status Holds =
    (IsStop seen.sources status × IsSilent seen) ⊎ ((i : Inputs) × (i.settings ≡ settings) × AreReadFrom seen.sources i × Holds i)

-- the source of an input tells these bytes at entry, no more than may be, and no read of it fails
pub record Tells (which : Which) (s : Change SourceView) (bytes : List ℕ) : Type 0 where
  pub told : s.before.left ≡ Some bytes
  pub short : length bytes ≤ most_bytes which
  pub faultless : Rose s.before.faults s.after.faults → ⊥

-- network, fleet and script tell texts that give these inputs, and no read of them fails
pub record TellInputs (s : Sources) (i : Inputs) : Type 0 where
  pub network_text : List ℕ
  pub network : Tells file.Network s.network network_text
  pub roads : network_in network_text ≡ Ok i.roads
  pub fleet_text : List ℕ
  pub fleet : Tells file.Fleet s.fleet fleet_text
  pub vehicles : IsFleetIn i.roads.nodes fleet_text i.vehicles
  pub script_text : List ℕ
  pub script : Tells file.Script s.script script_text
  pub rounds : script_in script_text ≡ Ok i.rounds

-- no write of the call fails
abbrev pub HasNoWriteFault : CallView → Type 0
HasNoWriteFault seen = Rose seen.out.before.faults seen.out.after.faults → ⊥
