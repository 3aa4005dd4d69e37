use Rattle.std.proofs.Common.{List, map, arith}
use Rattle.input_rows.proofs.Common.{
  roads_of,
  LoadShape,
  Field,
  arcs_right,
  arcs_down,
  arcs_of_row,
  network_part,
  fleet_part,
  script_part,
  texts_of,
  script_header,
  fleet_header,
  network_header,
  AreReadable,
}
use Rattle.rider_limits.specs.Range.{IsShapeInRange}
use Rattle.input_rows.proofs.made.TextLemmas.{fields_of, IsHeader-network, IsHeader-fleet, table_of-under}
use Rattle.input_rows.proofs.script.HeaderLemmas.{IsHeader-script}
use Rattle.input_rows.proofs.made.NetworkLemmas.{network_rows, network_accepted}
use Rattle.input_rows.proofs.made.MadeFleetLemmas.{fleet_rows, fleet_accepted}
use Rattle.input_rows.proofs.made.MadeScriptLemmas.{input_rows, script_accepted}

-- the network, the fleet and the script of a shape are accepted
pub accepted : (shape : LoadShape) → IsShapeInRange shape.seed shape.side shape.vehicles shape.riders shape.rounds → AreReadable (texts_of shape)
unfolding texts_of network_part arcs_of_row arcs_right arcs_down fleet_part script_part
accepted shape range =
    let arcs : List (List Field) = network_rows shape in
    let rows : List (List Field) = fleet_rows shape in
    let network = network_accepted shape range.side_range.1 in
    let fleet = fleet_accepted shape range.side_range.0 range.side_range.1 range.vehicles_range.1 in
    let lines : List (List Field) = input_rows shape in
    let script = script_accepted shape range.side_range.0 range.side_range.1 range.vehicles_range.1 range.riders_range.1 range.rounds_range.1 in
    record {
      roads = roads_of (map fields_of arcs);
      vehicles = fleet.1;
      rounds = script.1;
      read = record {
        network = record {
          table = record { columns = 3; records = map fields_of arcs };
          rows = table_of-under network_header 3 arcs IsHeader-network (omega arith) network.0;
          is = network.1;
        };
        fleet = record {
          table = record { columns = 4; records = map fields_of rows };
          rows = table_of-under fleet_header 4 rows IsHeader-fleet (omega arith) fleet.0;
          is = fleet.2;
        };
        script = record {
          table = record { columns = 7; records = map fields_of lines };
          rows = table_of-under script_header 7 lines IsHeader-script (omega arith) script.0;
          is = script.2;
        };
      };
    }
