-- What the bytes of the inputs give: a value, or the first refusal.
use Rattle.std.specs.Prelude.{◌≡◌, ◌↔◌, ℕ, List, Result, Ok, Err, map, Contains}
use Rattle.std.specs.List.Sorted.{IsStrictlyIncreasing}
use Rattle.request_book.specs.declared.values.vehicle.Vehicle.{Vehicle}
use Rattle.input_rows.specs.fleet.Fleet.{vehicles_of}
use Rattle.input_rows.specs.declared.fleet.fault.FleetFault.{FleetFault}
use Rattle.pool_base.specs.Header.{network_header, fleet_header, script_header, party_header}
use Rattle.pool_io.specs.Table.{Table, table_of}
use Rattle.pool_io.specs.declared.input.Input.{Input}
use Rattle.pool_io.specs.declared.input.Input.TheVariants.{Rows, Own}
use Rattle.pool_io.specs.declared.records.RowFault.{RowFault}
use Rattle.pool_io.specs.declared.records.RowFault.TheVariants.{Header}
use Rattle.road_network.specs.Reading.{network_of}
use Rattle.road_network.specs.Roads.{Roads}
use Rattle.road_network.specs.declared.fault.NetworkFault.{NetworkFault}
use Rattle.input_rows.specs.script.Round.{NumberedLanes}
use Rattle.input_rows.specs.script.Script.{script_of}
use Rattle.input_rows.specs.declared.script.fault.ScriptFault.{ScriptFault}
use Rattle.input_rows.specs.declared.script.version.ScriptVersion.TheVariants.{One, Two}

-- a refusal of what rows say
abbrev pub own_fault : {A F : Type 0} → Result A F → Result A (Input F)
own_fault (Ok x) = Ok x
own_fault (Err fault) = Err (Own fault)

-- the records behind a header, and what they say
abbrev pub in_rows : {A F : Type 0} → Result Table RowFault → (Table → Result A F) → Result A (Input F)
in_rows (Err fault) read = Err (Rows fault)
in_rows (Ok table) read = own_fault (read table)

-- the network that bytes give
unfoldable pub network_in : List ℕ → Result Roads (Input NetworkFault)
network_in bytes = in_rows (table_of network_header bytes) (λ t. network_of t.records)

-- the vehicles that bytes give in their order, on a network of these nodes
unfoldable pub vehicles_in : List ℕ → List ℕ → Result (List Vehicle) (Input FleetFault)
vehicles_in nodes bytes = in_rows (table_of fleet_header bytes) (λ t. vehicles_of nodes t.records)

-- bytes give this fleet: their vehicles, by rising id
pub record IsFleetIn (nodes bytes : List ℕ) (fleet : List Vehicle) : Type 0 where
  pub vehicles : List Vehicle
  pub read : vehicles_in nodes bytes ≡ Ok vehicles
  pub rising : IsStrictlyIncreasing (map (λ v. v.id) fleet)
  pub members : (v : Vehicle) → Contains fleet v ↔ Contains vehicles v

-- the rounds, by what the first header gave
abbrev pub first_version : List ℕ → Result Table RowFault → Result (List NumberedLanes) (Input ScriptFault)
first_version bytes (Err (Header fields)) = in_rows (table_of party_header bytes) (λ t. script_of Two t.records)
first_version bytes read = in_rows read (λ t. script_of One t.records)

-- the rounds that bytes give: by the first header, and where that isn't theirs, by the second
unfoldable pub script_in : List ℕ → Result (List NumberedLanes) (Input ScriptFault)
script_in bytes = first_version bytes (table_of script_header bytes)
