use Rattle.std.specs.Prelude.{◌≡◌, ℕ, List, Ok}
use Rattle.pool_io.specs.Table.{Table, table_of}
use Rattle.request_book.specs.declared.values.vehicle.Vehicle.{Vehicle}
use Rattle.road_network.specs.Roads.{Roads}
use Rattle.road_network.specs.Reading.{network_of}
use Rattle.input_rows.specs.fleet.Fleet.{IsFleetOf}
use Rattle.input_rows.specs.declared.script.version.ScriptVersion.TheVariants.{One}
use Rattle.input_rows.specs.script.Round.{NumberedLanes}
use Rattle.input_rows.specs.script.Script.{script_of}
use Rattle.input_rows.specs.made.Texts.{Texts}
use Rattle.pool_base.specs.Header.{script_header, fleet_header, network_header}

-- a text that is read as this network: its rows, and what they give
pub record IsNetworkText (text : List ℕ) (roads : Roads) : Type 0 where
  pub table : Table
  pub rows : table_of network_header text ≡ Ok table
  pub is : network_of table.records ≡ Ok roads

-- a text that is read as this fleet, on a network of these nodes
pub record IsFleetText (nodes : List ℕ) (text : List ℕ) (fleet : List Vehicle) : Type 0 where
  pub table : Table
  pub rows : table_of fleet_header text ≡ Ok table
  pub is : IsFleetOf nodes table.records fleet

-- a text that is read as these rounds, by the script's first version
pub record IsScriptText (text : List ℕ) (rounds : List NumberedLanes) : Type 0 where
  pub table : Table
  pub rows : table_of script_header text ≡ Ok table
  pub is : script_of One table.records ≡ Ok rounds

-- three texts that are read as this network, this fleet on it, and these rounds
pub record AreRead (texts : Texts) (roads : Roads) (vehicles : List Vehicle) (rounds : List NumberedLanes) : Type 0 where
  pub network : IsNetworkText texts.network roads
  pub fleet : IsFleetText roads.nodes texts.fleet vehicles
  pub script : IsScriptText texts.script rounds

-- the readers accept a network, a fleet on it and a script
pub record AreReadable (texts : Texts) : Type 0 where
  pub roads : Roads
  pub vehicles : List Vehicle
  pub rounds : List NumberedLanes
  pub read : AreRead texts roads vehicles rounds
