use Rattle.std.proofs.Common.{arith}
use Rattle.report_audit.proofs.Common.{both_ways, between_row, row_between}
use borrow.Author.Count.{below_more}
use Rattle.report_audit.proofs.points.trips.row_of_trip.Goals as goal

pub tells_row-requires-clause-row : goal.tells_row-requires-clause-row
tells_row-requires-clause-row c = row_between _ _ _ _ _ c.first_row-row.ensures c.first_row-row-end.ensures c.loop-row.auto.row c.loop-row-test.true

pub returns-then-tells_row : goal.returns-then-tells_row
returns-then-tells_row c = (
  row_between _ _ _ _ _ c.first_row-row.ensures c.first_row-row-end.ensures c.loop-row.auto.row c.loop-row-test.true,
  c.tells_row.ensures.0 c.if-tells_row.true,
)

pub loop-row-preserved : goal.loop-row-preserved
loop-row-preserved c = below_more _ c.loop-row.row c.loop-row.invariant (λ row tells. both_ways _ c.if-tells_row.false (c.tells_row.ensures.1 tells))

pub returns : goal.returns
returns c = λ row own tells.
    let low = (between_row _ _ row _ _ c.first_row-row.ensures c.first_row-row-end.ensures own).1 in
    c.loop-row.invariant row (omega (arith, low, c.loop-row-test.false)) own tells
