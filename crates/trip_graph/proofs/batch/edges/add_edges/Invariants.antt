use Rattle.std.proofs.Common.{◌≡◌, ◌++◌, map, take}
use Rattle.trip_graph.proofs.Common.{single_edge}
use Rattle.trip_graph.proofs.batch.edges.add_edges.Given as goal

abbrev pub invariant-loop-row : goal.invariant-loop-row
invariant-loop-row l = l.edges.items ≡ l.fn.edges.items ++ map (single_edge l.vehicle) (take l.row-index l.rows)
