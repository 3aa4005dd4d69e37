use Rattle.std.proofs.Common.{◌++◌, map, ap, ◌∙◌}
use Rattle.trip_graph.proofs.Common.{single_edge}
use Rattle.std.proofs.lemmas.List.{take_all}
use Rattle.trip_graph.proofs.batch.edges.add_edges.Goals as goal

pub returns : goal.returns
returns c = c.loop-row.invariant ∙ ap (λ xs. c.args.edges.now.items ++ map (single_edge c.args.vehicle) xs)
    (take_all c.loop-row.row-index c.args.rows.now c.loop-row-test.false)
