use Rattle.travel_times.proofs.Common.{AreRows}
use Rattle.travel_times.proofs.table.plain.cells_of.Given as goal

abbrev pub invariant-loop-start : goal.invariant-loop-start
invariant-loop-start l = AreRows l.network.arcs l.points 0 l.start-index l.cells.items
