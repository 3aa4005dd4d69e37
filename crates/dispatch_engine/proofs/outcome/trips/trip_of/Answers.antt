use Rattle.std.proofs.Common.{◌≡◌, ℕ, List, sym, ap, ◌∙◌, subst}
use Rattle.dispatch_engine.proofs.Common.{row_read, travel_time, TripRow, riders_at, SettledVehicle, Stop, Task, trip_task, Serves, told_stops}
use Rattle.dispatch_engine.proofs.lemmas.outcome.TripLemmas.{vehicle_read}
use Rattle.dispatch_engine.proofs.outcome.RowLemmas.{choice_read, chosen_long, served_row, trip_found}
use Rattle.dispatch_engine.proofs.outcome.trips.trip_of.Goals as goal

pub unreachable-requires-in_default-2 : goal.unreachable-requires-in_default-2
unreachable-requires-in_default-2 g c =
    let instance = c.args.graphs.now.instance.now in let settings = instance.settings.now in
    let tau = travel_time instance.times.now in let settled = instance.settled.now in let graph = c.args.graphs.now.graph.now in let chosen =
    c.args.chosen.now in
    let v = c.args.vehicle in let number = c.in-Some.number in
    let long = chosen_long settings tau settled graph chosen c.requires.exact.exact c.requires.lawful v c.requires.vehicle in
    let choice = sym (choice_read chosen v _ long) ∙ c.in-Some.is in
    let served = served_row settings tau settled graph chosen c.requires.exact.exact c.requires.lawful v number c.requires.vehicle choice in
    let row_is = row_read graph c.rows.result.now number c.index-rows-number.result c.rows.ensures.value served.within c.index-rows-number.is in
    let riders_is : c.as_slice-riders.result.now ≡ riders_at graph number = c.as_slice-riders.ensures.value ∙ ap (λ (row : TripRow). row.riders.items) row_is in
    let task_is = c.task_of-task.ensures ∙ ap (trip_task settled v) riders_is in
    let none = rw c.in_default-2.is at c.in_ok-route.ensures.none in
    none served.costs.stops (subst (λ (t : Task). Serves tau t served.costs.stops) (sym task_is) served.costs.serves)

pub returns : goal.returns
returns g c =
    let instance = c.args.graphs.now.instance.now in let settings = instance.settings.now in
    let tau = travel_time instance.times.now in let settled = instance.settled.now in let graph = c.args.graphs.now.graph.now in let chosen =
    c.args.chosen.now in
    let v = c.args.vehicle in let number = c.in-Some.number in
    let long = chosen_long settings tau settled graph chosen c.requires.exact.exact c.requires.lawful v c.requires.vehicle in
    let choice = sym (choice_read chosen v _ long) ∙ c.in-Some.is in
    let served = served_row settings tau settled graph chosen c.requires.exact.exact c.requires.lawful v number c.requires.vehicle choice in
    let row_is = row_read graph c.rows.result.now number c.index-rows-number.result c.rows.ensures.value served.within c.index-rows-number.is in
    let riders_is : c.as_slice-riders.result.now ≡ riders_at graph number = c.as_slice-riders.ensures.value ∙ ap (λ (row : TripRow). row.riders.items) row_is in
    let found = c.in_ok-route.ensures in
    trip_found instance.points.now tau settled graph chosen v number c.task_of-task.result c.in-Some-2.route.stops.items c.in-Some-2.route.delay _
    choice served
    (ap (λ (one : SettledVehicle). one.id) (vehicle_read settled c.as_slice.result.now v _ c.as_slice.ensures c.requires.vehicle))
    (ap (λ (row : TripRow). row.cost) row_is)
    (c.task_of-task.ensures ∙ ap (trip_task settled v) riders_is)
    (rw c.in-Some-2.is at found.serves) (rw c.in-Some-2.is at found.delay) (rw c.in-Some-2.is at found.least)
    (c.tell_stops-stops.ensures
    ∙ ap (λ (trip : List ℕ). told_stops instance.points.now tau settled v trip c.as_slice-order.result.now) riders_is
    ∙ ap (λ (stops : List Stop). told_stops instance.points.now tau settled v (riders_at graph number) stops) c.as_slice-order.ensures.value)
