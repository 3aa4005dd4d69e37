use Rattle.std.proofs.Common.{◌≡◌, ◌≤◌, None, length, map, take, All}
use Rattle.road_network.proofs.Common.{first_fault, most_nodes, longest_arc, greatest_name, arc_in, refusal_at, nodes_of, arc_seconds}
use Rattle.road_network.proofs.Numbering.{IsRowNumbered}
use Rattle.road_network.proofs.reading.read_network.Given as goal

abbrev pub invariant-rows : goal.invariant-rows
invariant-rows l =
    (first_fault (refusal_at l.rows.records) l.row ≡ None)
    × (l.nodes.names ≡ nodes_of (take l.row l.rows.records))
    × (length l.nodes.names ≤ most_nodes)
    × (l.arcs.items ≡ map (arc_in l.nodes.names) (take l.row l.rows.records))
    × All (IsRowNumbered l.nodes.names) (take l.row l.rows.records)
    × All (λ fields. arc_seconds fields ≤ longest_arc) (take l.row l.rows.records)
    × All (λ name. name ≤ greatest_name) l.nodes.names
