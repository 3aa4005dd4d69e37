use Rattle.std.proofs.Common.{◌≡◌, ◌<◌, ◌+◌, List, length, get_or, drop, subst, sym, ap, ◌∙◌}
use Rattle.dispatch_engine.proofs.Common.{drop_more, length-map, point_count, travel_time, PlannedStop, Task, place_of, visit_at, visit_place}
use Rattle.stop_orders.specs.task.Order.{IsKnown}
use Rattle.stop_orders.specs.declared.task.stop.Stop.TheVariants.{Pick}
use Rattle.dispatch_engine.proofs.outcome.ToldLemmas.{ToldScan, told_first, told_next}
use Rattle.dispatch_engine.proofs.outcome.told.tell_stops.Goals as goal

pub loop-stop-init : goal.loop-stop-init
loop-stop-init g c =
    let first = told_first (point_count c.args.instance.now.times.now) c.args.instance.now.points.now (travel_time c.args.instance.now.times.now)
    c.args.instance.now.settled.now c.args.vehicle c.args.trip.now c.args.task.now g.row.N c.args.stops.now
    c.requires.valid c.requires.task c.requires.order c.requires.room in
    subst (λ (told : List PlannedStop). ToldScan (point_count c.args.instance.now.times.now) c.args.instance.now.points.now
    (travel_time c.args.instance.now.times.now) c.args.instance.now.settled.now c.args.vehicle c.args.trip.now c.args.task.now g.row.N c.args.stops.now
    c.args.stops.now
    c.args.task.now.start c.args.task.now.ready told) (sym c.new-told.ensures) first

pub seconds-requires-clause-to : goal.seconds-requires-clause-to
seconds-requires-clause-to g c =
    let stop = get_or c.args.stops.now c.loop-stop.stop-index (Pick 0) in
    let scan = rw (drop_more c.args.stops.now c.loop-stop.stop-index (Pick 0) c.loop-stop-test.true) at c.loop-stop.invariant in
    let there : c.place-to.result ≡ place_of (visit_at c.args.task.now stop) = c.place-to.ensures ∙ ap place_of c.visit_of.ensures in
    subst (λ x. x < point_count c.args.instance.now.times.now) (sym there) (visit_place (point_count c.args.instance.now.times.now) c.args.task.now
    c.requires.valid stop scan.known.0)

pub loop-stop-preserved : goal.loop-stop-preserved
loop-stop-preserved g c =
    let tau = travel_time c.args.instance.now.times.now in
    let stop = get_or c.args.stops.now c.loop-stop.stop-index (Pick 0) in
    let rest = drop (c.loop-stop.stop-index + 1) c.args.stops.now in
    let scan = rw (drop_more c.args.stops.now c.loop-stop.stop-index (Pick 0) c.loop-stop-test.true) at c.loop-stop.invariant in
    let there : c.place-to.result ≡ place_of (visit_at c.args.task.now stop) = c.place-to.ensures ∙ ap place_of c.visit_of.ensures in
    rw c.push.ensures.items (told_next (point_count c.args.instance.now.times.now) c.args.instance.now.points.now tau c.args.instance.now.settled.now
    c.args.vehicle c.args.trip.now c.args.task.now g.row.N c.args.stops.now c.requires.valid
    stop rest c.loop-stop.place c.loop-stop.free c.place-to.result (c.loop-stop.free + c.seconds.result) c.loop-stop.told.items c.tell_stop.result
    scan there (ap (λ x. c.loop-stop.free + x) c.seconds.ensures) (c.args.instance.now.times.now.table.times.most c.loop-stop.place c.place-to.result)
    c.tell_stop.ensures)

pub tell_stop-requires-clause-known : goal.tell_stop-requires-clause-known
tell_stop-requires-clause-known g c =
    let stop = get_or c.args.stops.now c.loop-stop.stop-index (Pick 0) in
    let scan = rw (drop_more c.args.stops.now c.loop-stop.stop-index (Pick 0) c.loop-stop-test.true) at c.loop-stop.invariant in
    rw length-map at (subst (λ (t : Task). IsKnown (length t.riders.items) (length t.aboard.items) stop) c.requires.task scan.known.0)

pub tell_stop-requires-clause-within : goal.tell_stop-requires-clause-within
tell_stop-requires-clause-within g c =
    let stop = get_or c.args.stops.now c.loop-stop.stop-index (Pick 0) in
    let scan = rw (drop_more c.args.stops.now c.loop-stop.stop-index (Pick 0) c.loop-stop-test.true) at c.loop-stop.invariant in
    let there : c.place-to.result ≡ place_of (visit_at c.args.task.now stop) = c.place-to.ensures ∙ ap place_of c.visit_of.ensures in
    subst (λ x. x < point_count c.args.instance.now.times.now) (sym there) (visit_place (point_count c.args.instance.now.times.now) c.args.task.now
    c.requires.valid stop scan.known.0)

pub tell_stop-requires-clause-place : goal.tell_stop-requires-clause-place
tell_stop-requires-clause-place g c =
    let stop = get_or c.args.stops.now c.loop-stop.stop-index (Pick 0) in
    c.place-to.ensures ∙ ap place_of c.visit_of.ensures ∙ ap (λ (t : Task). place_of (visit_at t stop)) c.requires.task
