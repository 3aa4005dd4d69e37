use Rattle.std.proofs.Common.{◌≡◌, take, map}
use Rattle.dispatch_engine.proofs.Common.{trip_row_line}
use Rattle.dispatch_engine.proofs.outcome.lines.trip_row_lines.Given as goal

abbrev pub invariant-loop-row : goal.invariant-loop-row
invariant-loop-row l = l.lines.items ≡ map (trip_row_line l.settled) (take l.row-index l.rows)
