use Rattle.std.proofs.Common.{All, Contains, sym, subst}
use Rattle.travel_times.proofs.Common.{Roads}
use Rattle.travel_times.proofs.labels.CellLemmas.{times_of_cells}
use Rattle.travel_times.proofs.labels.label_ways.LabelWaysWays.table.Goals as goal

pub indexes_of-requires : goal.indexes_of-requires
indexes_of-requires g c = record { known = subst (λ (r : Roads). All (λ node. Contains r.nodes node) c.args.nodes.now) (sym c.self.view_is) c.requires.known }

pub table_of_times-requires-clause-times : goal.table_of_times-requires-clause-times
table_of_times-requires-clause-times g c = λ i j hi hj.
    times_of_cells c.self.inside.network.now.arcs c.deref-2.result.now c.in_ok-cells.cells.items
    (rw c.deref-2.ensures.value (rw c.deref.ensures.value at c.in_ok-cells.ensures.size))
    (rw c.deref-2.ensures.value (rw c.deref.ensures.value at (c.in_ok-cells.ensures.times c.self.inside.network.now c.self.invariant)))
    i j hi hj
