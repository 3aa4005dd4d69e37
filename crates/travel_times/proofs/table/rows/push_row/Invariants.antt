use Rattle.std.proofs.Common.{◌≡◌, ◌++◌, map, take, slice_index}
use Rattle.travel_times.proofs.table.rows.push_row.Given as goal

abbrev pub invariant-loop-point : goal.invariant-loop-point
invariant-loop-point l = l.cells.items ≡ l.initial.cells.items ++ map (λ point. slice_index l.seconds point) (take l.point-index l.points)
