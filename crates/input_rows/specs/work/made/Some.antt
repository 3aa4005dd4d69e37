use Rattle.std.specs.Prelude.{◌≡◌, ℕ, List, Ok}
use Rattle.pool_io.specs.Table.{Table, table_of}
use Rattle.request_book.specs.declared.values.vehicle.Vehicle.{Vehicle}
use Rattle.road_network.specs.Roads.{Roads}
use Rattle.input_rows.specs.script.Round.{NumberedLanes}
use Rattle.input_rows.specs.made.Accepted.{IsNetworkText, IsFleetText, IsScriptText}

-- a text is read as some table
abbrev pub IsSomeTable : List ℕ → List ℕ → Type 0
IsSomeTable header text = (table : Table) × (table_of header text ≡ Ok table)

-- as some network
abbrev pub IsSomeNetwork : List ℕ → Type 0
IsSomeNetwork text = (roads : Roads) × IsNetworkText text roads

-- as some fleet, on a network of these nodes
abbrev pub IsSomeFleet : List ℕ → List ℕ → Type 0
IsSomeFleet nodes text = (fleet : List Vehicle) × IsFleetText nodes text fleet

-- as some rounds
abbrev pub AreSomeRounds : List ℕ → Type 0
AreSomeRounds text = (rounds : List NumberedLanes) × IsScriptText text rounds
