use Rattle.std.proofs.Common.{true, false}
use Rattle.report_audit.proofs.Common.{travel_time}
use Rattle.report_audit.proofs.lemmas.points.TripLemmas.{late_next, no_row_told, no_trip, plan_made, trip_next, trips_over}
use Rattle.report_audit.proofs.lemmas.points.WalkLemmas.{late_read}
use Rattle.report_audit.proofs.points.trips.plan_of_trips.Goals as goal

pub loop-vehicle-preserved-then-vehicles-vehicle : goal.loop-vehicle-preserved-then-vehicles-vehicle
loop-vehicle-preserved-then-vehicles-vehicle c =
    let here = late_read c.args.graphs.now.instance.now.settled.now c.as_slice-vehicles.result.now c.loop-vehicle.vehicle _ true c.as_slice-vehicles.ensures
    c.loop-vehicle-test.true c.if-vehicles-vehicle.true in
    rw c.in_ok-push.ensures.items
    (late_next c.args.graphs.now.instance.now.points.now c.args.graphs.now.instance.now.settings.now (travel_time c.args.graphs.now.instance.now.times.now)
    c.args.graphs.now.instance.now.settled.now c.args.graphs.now.graph.now c.requires.ids c.requires.exact.exact c.args.trips.now
    c.loop-vehicle.vehicle c.loop-vehicle.place c.loop-vehicle.chosen.items here.0 c.loop-vehicle.invariant here.1)

pub returns-then-place-trips : goal.returns-then-place-trips
returns-then-place-trips c =
    let here = late_read c.args.graphs.now.instance.now.settled.now c.as_slice-vehicles.result.now c.loop-vehicle.vehicle _ false c.as_slice-vehicles.ensures
    c.loop-vehicle-test.true c.if-vehicles-vehicle.false in
    no_trip c.args.graphs.now.instance.now.points.now c.args.graphs.now.instance.now.settings.now (travel_time c.args.graphs.now.instance.now.times.now)
    c.args.graphs.now.instance.now.settled.now c.args.graphs.now.graph.now c.requires.ids c.requires.exact.exact c.args.trips.now
    c.loop-vehicle.vehicle c.loop-vehicle.place c.loop-vehicle.chosen.items here.0 c.loop-vehicle.invariant here.1 c.if-place-trips.true

pub returns-in_default : goal.returns-in_default
returns-in_default c =
    let here = late_read c.args.graphs.now.instance.now.settled.now c.as_slice-vehicles.result.now c.loop-vehicle.vehicle _ false c.as_slice-vehicles.ensures
    c.loop-vehicle-test.true c.if-vehicles-vehicle.false in
    no_row_told c.args.graphs.now.instance.now.points.now c.args.graphs.now.instance.now.settings.now (travel_time c.args.graphs.now.instance.now.times.now)
    c.args.graphs.now.instance.now.settled.now c.args.graphs.now.graph.now c.requires.ids c.requires.exact.exact c.args.trips.now
    c.loop-vehicle.vehicle c.loop-vehicle.place c.loop-vehicle.chosen.items here.0 c.loop-vehicle.invariant here.1 c.index-trips-place.result
    c.if-place-trips.false c.index-trips-place.is c.in_default.ensures

pub loop-vehicle-preserved : goal.loop-vehicle-preserved
loop-vehicle-preserved c =
    let here = late_read c.args.graphs.now.instance.now.settled.now c.as_slice-vehicles.result.now c.loop-vehicle.vehicle _ false c.as_slice-vehicles.ensures
    c.loop-vehicle-test.true c.if-vehicles-vehicle.false in
    rw c.in_ok-push-2.ensures.items
    (trip_next c.args.graphs.now.instance.now.points.now c.args.graphs.now.instance.now.settings.now (travel_time c.args.graphs.now.instance.now.times.now)
    c.args.graphs.now.instance.now.settled.now c.args.graphs.now.graph.now c.requires.ids c.requires.exact.exact c.args.trips.now
    c.loop-vehicle.vehicle c.loop-vehicle.place c.loop-vehicle.chosen.items here.0 c.loop-vehicle.invariant here.1 c.index-trips-place.result
    c.if-place-trips.false c.index-trips-place.is c.in-Some.row c.in-Some.ensures.0 c.in-Some.ensures.1)

pub returns-then-place-trips-2 : goal.returns-then-place-trips-2
returns-then-place-trips-2 c =
    trips_over c.args.graphs.now.instance.now.points.now c.args.graphs.now.instance.now.settings.now (travel_time c.args.graphs.now.instance.now.times.now)
    c.args.graphs.now.instance.now.settled.now c.args.graphs.now.graph.now c.requires.ids c.requires.exact.exact c.args.trips.now
    c.loop-vehicle.vehicle c.loop-vehicle.place c.loop-vehicle.chosen.items (rw c.as_slice-vehicles.ensures at c.loop-vehicle-test.false)
    c.loop-vehicle.invariant c.if-place-trips-2.true

pub returns : goal.returns
returns c =
    rw c.of.ensures
    (plan_made c.args.graphs.now.instance.now.points.now c.args.graphs.now.instance.now.settings.now (travel_time c.args.graphs.now.instance.now.times.now)
    c.args.graphs.now.instance.now.settled.now c.args.graphs.now.graph.now c.requires.ids c.requires.exact.exact c.args.trips.now
    c.loop-vehicle.vehicle c.loop-vehicle.place c.loop-vehicle.chosen.items (rw c.as_slice-vehicles.ensures at c.loop-vehicle-test.false)
    (rw c.as_slice-vehicles.ensures at c.loop-vehicle.auto.vehicle-end) c.if-place-trips-2.false c.loop-vehicle.invariant)
