use Rattle.travel_times.proofs.Common.{length-map}
use Rattle.travel_times.proofs.table.table.times_shared.Goals as goal

pub cells_between-requires-clause-known : goal.cells_between-requires-clause-known
cells_between-requires-clause-known g c κs within = rw c.deref.ensures.value c.in_ok-points.ensures.within

pub cells_between-requires-clause-few : goal.cells_between-requires-clause-few
cells_between-requires-clause-few g c κs within = rw (c.deref.ensures.value, c.in_ok-points.ensures.indexes, length-map) c.requires.few

pub table_of-requires-clause-known : goal.table_of-requires-clause-known
table_of-requires-clause-known g c = rw c.deref-2.ensures.value c.in_ok-points.ensures.within

pub table_of-requires-clause-rows : goal.table_of-requires-clause-rows
table_of-requires-clause-rows g c = rw c.deref-2.ensures.value (rw c.deref.ensures.value at c.in_ok-cells.ensures)

pub returns : goal.returns
returns g c = rw (c.deref-2.ensures.value, c.in_ok-points.ensures.indexes) at c.table_of.ensures
