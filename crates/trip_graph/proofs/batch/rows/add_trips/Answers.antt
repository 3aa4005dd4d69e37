use Rattle.std.proofs.Common.{◌++◌, map, ap, ◌∙◌}
use Rattle.trip_graph.proofs.Common.{trip_row}
use Rattle.trip_graph.proofs.Lists.{on_err, map_pushed}
use Rattle.std.proofs.lemmas.List.{take_all}
use Rattle.trip_graph.proofs.batch.rows.add_trips.Goals as goal

pub loop-trip-preserved : goal.loop-trip-preserved
loop-trip-preserved c =
    map_pushed (trip_row c.args.vehicle) c.args.trips.now c.loop-trip.trip-index c.trip-item.result _ c.args.rows.now.items c.loop-trip.rows.items _
    c.loop-trip-test.true c.trip-item.is c.row_of.ensures c.loop-trip.invariant c.in_ok-push.ensures.items

pub returns-in_err-push : goal.returns-in_err-push
returns-in_err-push c = on_err c.from_residual.result _ c.from_residual.ensures.0

pub returns : goal.returns
returns c = c.loop-trip.invariant ∙ ap (λ xs. c.args.rows.now.items ++ map (trip_row c.args.vehicle) xs)
    (take_all c.loop-trip.trip-index c.args.trips.now c.loop-trip-test.false)
