use Rattle.std.proofs.Common.{◌≡◌, List, sym, ap, ◌∙◌, subst}
use Rattle.report_audit.proofs.Common.{row_read, vehicle_read, both_ways, riders_at, travel_time, SettledVehicle, Stop, ReachesAll, Serves, order_delay}
use Rattle.std.proofs.lemmas.Bool.{eq-eqb, eqb-true}
use Rattle.stop_orders.proofs.lemmas.search.PlainLemmas.{ReachesAll-from_serves}
use Rattle.report_audit.proofs.lemmas.points.LateLemmas.{rightly_no, same_id}
use Rattle.report_audit.proofs.lemmas.points.TellsLemmas.{tells_serves, tells_delay, tells_told, tells_from}
use Rattle.plan_rules.specs.declared.row.TripRow.{TripRow}
use Rattle.report_audit.proofs.points.trips.tells_row.Goals as goal

pub returns-in_default : goal.returns-in_default
returns-in_default c =
    let instance = c.args.graphs.now.instance.now in let points = instance.points.now in let tau = travel_time instance.times.now in let settled =
    instance.settled.now in let graph = c.args.graphs.now.graph.now in
    let v = c.args.vehicle in let row = c.args.row in let trip = c.args.trip.now in let riders = c.as_slice-riders.result.now in let task =
    c.task_of-task.result in
    let row_is = row_read graph c.rows.result.now row c.index-rows-row.result c.rows.ensures.value c.requires.row.within c.index-rows-row.is in
    let riders_are : riders ≡ riders_at graph row = c.as_slice-riders.ensures.value ∙ ap (λ (one : TripRow). one.riders.items) row_is in rightly_no (λ tells.
    let serves = tells_serves points tau settled graph v row trip riders task riders_are c.task_of-task.ensures tells in
    let told = tells_told points tau settled graph v row trip riders task riders_are c.task_of-task.ensures tells in
    c.in_default.ensures.none tells.stops serves.order (c.as_slice-stops.ensures.value ∙ told))

pub returns-then-not-serves : goal.returns-then-not-serves
returns-then-not-serves c =
    let instance = c.args.graphs.now.instance.now in let points = instance.points.now in let tau = travel_time instance.times.now in let settled =
    instance.settled.now in let graph = c.args.graphs.now.graph.now in
    let v = c.args.vehicle in let row = c.args.row in let trip = c.args.trip.now in let riders = c.as_slice-riders.result.now in let task =
    c.task_of-task.result in
    let row_is = row_read graph c.rows.result.now row c.index-rows-row.result c.rows.ensures.value c.requires.row.within c.index-rows-row.is in
    let riders_are : riders ≡ riders_at graph row = c.as_slice-riders.ensures.value ∙ ap (λ (one : TripRow). one.riders.items) row_is in rightly_no (λ tells.
    let serves = tells_serves points tau settled graph v row trip riders task riders_are c.task_of-task.ensures tells in
    let told = tells_told points tau settled graph v row trip riders task riders_are c.task_of-task.ensures tells in
    let only = c.in-Some.ensures.only tells.stops serves.order (c.as_slice-stops.ensures.value ∙ told) in
    both_ways _ c.if-not-serves.true (c.serves.ensures.1 (subst (λ (stops : List Stop). Serves tau task stops) (sym (c.as_slice-2.ensures.value ∙ only))
    serves)))

pub returns-in_default-delay_of : goal.returns-in_default-delay_of
returns-in_default-delay_of c =
    let tau = travel_time c.args.graphs.now.instance.now.times.now in let task = c.task_of-task.result in
    let serves = c.serves.ensures.0 c.if-not-serves.false in
    let here = subst (λ (stops : List Stop). ReachesAll tau task stops) (c.as_slice-2.ensures.value ∙ sym c.as_slice-3.ensures.value)
    (ReachesAll-from_serves tau task c.as_slice-2.result.now serves) in
    absurd (c.in_default-delay_of.ensures here)

pub returns : goal.returns
returns c =
    let instance = c.args.graphs.now.instance.now in let points = instance.points.now in let tau = travel_time instance.times.now in let settled =
    instance.settled.now in let graph = c.args.graphs.now.graph.now in
    let v = c.args.vehicle in let row = c.args.row in let trip = c.args.trip.now in let riders = c.as_slice-riders.result.now in let task =
    c.task_of-task.result in
    let row_is = row_read graph c.rows.result.now row c.index-rows-row.result c.rows.ensures.value c.requires.row.within c.index-rows-row.is in
    let riders_are : riders ≡ riders_at graph row = c.as_slice-riders.ensures.value ∙ ap (λ (one : TripRow). one.riders.items) row_is in
    let has = c.in-Some-delay_of.ensures.1 in (
      λ is. tells_from points tau settled graph v row trip riders task riders_are c.task_of-task.ensures c.in-Some.order.items
          (same_id trip.vehicle _ c.if-ne.ensures ∙ ap (λ (one : SettledVehicle). one.id) (vehicle_read settled c.as_slice.result.now v _ c.as_slice.ensures
          c.requires.vehicle))
          (c.if-trip-one.false ∙ ap (λ (one : TripRow). one.cost) row_is)
          (subst (λ (stops : List Stop). Serves tau task stops) c.as_slice-2.ensures.value (c.serves.ensures.0 c.if-not-serves.false))
          (sym (ap (λ (stops : List Stop). order_delay tau task stops) c.as_slice-3.ensures.value) ∙ sym has ∙ eqb-true c.in-Some-delay_of.delay trip.cost is)
          (sym c.as_slice-stops.ensures.value ∙ c.in-Some.ensures.told),
      λ tells.
          let serves = tells_serves points tau settled graph v row trip riders task riders_are c.task_of-task.ensures tells in
          let told = tells_told points tau settled graph v row trip riders task riders_are c.task_of-task.ensures tells in
          let delay = tells_delay points tau settled graph v row trip riders task riders_are c.task_of-task.ensures tells in
          let only = c.in-Some.ensures.only tells.stops serves.order (c.as_slice-stops.ensures.value ∙ told) in
          eq-eqb c.in-Some-delay_of.delay trip.cost (has ∙ ap (λ (stops : List Stop). order_delay tau task stops) (c.as_slice-3.ensures.value ∙ only) ∙ delay),
    )
