use Rattle.travel_times.proofs.table.Pieces.{IsWriting}
use Rattle.travel_times.proofs.table.rows.write_rows.Given as goal

abbrev pub invariant-loop-row : goal.invariant-loop-row
invariant-loop-row l = IsWriting l.arcs.network.now.arcs l.points l.from l.count l.row l.cells
