use Rattle.std.proofs.Common.{length}
use Rattle.travel_times.proofs.table.Tables.{IsTable-from_rows, time_in_rows}
use Rattle.travel_times.proofs.table.table.table_of.Goals as goal

pub of-requires : goal.of-requires
of-requires c =
    let roads = c.args.network.now in
    IsTable-from_rows roads.arcs (length roads.nodes) c.args.points.now c.args.cells.items c.node_count-nodes.ensures.kept.arcs
    c.node_count-nodes.ensures.kept.few_nodes c.requires.known c.requires.rows

pub returns : goal.returns
returns c = record {
  points = c.of.ensures.points;
  cells = λ i j hi hj. rw (c.of.ensures.points, c.of.ensures.cells) (time_in_rows c.args.network.now.arcs c.args.points.now c.args.cells.items c.requires.rows i
      j hi hj);
}
