use Rattle.std.proofs.Common.{List, refl, ap, ◌∙◌, subst}
use Rattle.report_audit.proofs.Common.{
  valid_task,
  vehicle_read,
  point_count,
  travel_time,
  Stop,
  Task,
  SettledVehicle,
  IsOrderOf,
  ReachesAll,
  IsLateOrder,
  HasNoOrder,
}
use Rattle.std.proofs.lemmas.Bool.{eq-eqb, eqb-true}
use Rattle.report_audit.proofs.lemmas.points.LateLemmas.{rightly_no, same_id, late_order_of, late_reaches, one_late_delay}
use Rattle.report_audit.proofs.points.late.is_late.Goals as goal

pub least_delay_unlimited-requires-clause-valid : goal.least_delay_unlimited-requires-clause-valid
least_delay_unlimited-requires-clause-valid c =
    valid_task c.args.instance.now.settled.now c.args.vehicle (point_count c.args.instance.now.times.now) (travel_time c.args.instance.now.times.now)
    c.task_of-task.result (c.args.instance.now.settings.now.trip, c.requires.sound) c.requires.vehicle c.task_of-task.ensures

pub is_late_order-requires-clause-valid : goal.is_late_order-requires-clause-valid
is_late_order-requires-clause-valid c =
    valid_task c.args.instance.now.settled.now c.args.vehicle (point_count c.args.instance.now.times.now) (travel_time c.args.instance.now.times.now)
    c.task_of-task.result (c.args.instance.now.settings.now.trip, c.requires.sound) c.requires.vehicle c.task_of-task.ensures

pub returns-then-late-route : goal.returns-then-late-route
returns-then-late-route c =
    let instance = c.args.instance.now in let points = instance.points.now in let tau = travel_time instance.times.now in let settled =
    instance.settled.now in let v = c.args.vehicle in let task = c.task_of-task.result in
    let found = c.in_ok-least_delay_unlimited.ensures in rightly_no (λ late.
    let order : IsLateOrder points tau settled v c.args.late.now.delay c.in-Some-stops-2.told.items = rw c.in-Some-stops-2.is at late.stops in
    c.if-late-route.true (one_late_delay points tau settled v task c.task_of-task.ensures c.args.late.now.delay c.in-Some-stops-2.told.items order
    c.in-Some.route.delay c.in-Some.route.stops.items (rw c.in-Some.is at found.order) (rw c.in-Some.is at found.reaches) (rw c.in-Some.is at found.delay)
    (rw c.in-Some.is at found.least)))

pub returns-in-None-stops : goal.returns-in-None-stops
returns-in-None-stops c =
    let instance = c.args.instance.now in let points = instance.points.now in let tau = travel_time instance.times.now in let settled =
    instance.settled.now in let v = c.args.vehicle in
    let none = rw c.in-None.is at c.in_ok-least_delay_unlimited.ensures.none in
    let nowhere : HasNoOrder tau settled v = subst (λ (t : Task). (others : List Stop) → IsOrderOf t others → ReachesAll tau t others → ⊥)
    c.task_of-task.ensures none in (
      λ is. record {
        vehicle = same_id c.args.late.now.vehicle _ c.if-ne.ensures ∙ ap (λ (one : SettledVehicle). one.id)
            (vehicle_read settled c.as_slice.result.now v _ c.as_slice.ensures c.requires.vehicle);
        stops = rw c.in-None-stops.is (nowhere, eqb-true c.args.late.now.delay 0 is);
      },
      λ late. let told = rw c.in-None-stops.is at late.stops in eq-eqb c.args.late.now.delay 0 told.1,
    )

pub returns-in-Some-stops : goal.returns-in-Some-stops
returns-in-Some-stops c =
    let instance = c.args.instance.now in let points = instance.points.now in let tau = travel_time instance.times.now in let settled =
    instance.settled.now in let v = c.args.vehicle in let task = c.task_of-task.result in
    let none = rw c.in-None.is at c.in_ok-least_delay_unlimited.ensures.none in rightly_no (λ late.
    let order : IsLateOrder points tau settled v c.args.late.now.delay c.in-Some-stops._told.items = rw c.in-Some-stops.is at late.stops in
    none order.stops (late_order_of points tau settled v task c.task_of-task.ensures c.args.late.now.delay c.in-Some-stops._told.items order)
    (late_reaches points tau settled v task c.task_of-task.ensures c.args.late.now.delay c.in-Some-stops._told.items order order.stops refl))

pub returns-in-None-stops-2 : goal.returns-in-None-stops-2
returns-in-None-stops-2 c =
    let tau = travel_time c.args.instance.now.times.now in let settled = c.args.instance.now.settled.now in let v = c.args.vehicle in
    let found = c.in_ok-least_delay_unlimited.ensures in rightly_no (λ late.
    let told = rw c.in-None-stops-2.is at late.stops in
    told.0 c.in-Some.route.stops.items (subst (λ (t : Task). IsOrderOf t c.in-Some.route.stops.items) c.task_of-task.ensures (rw c.in-Some.is at found.order))
    (subst (λ (t : Task). ReachesAll tau t c.in-Some.route.stops.items) c.task_of-task.ensures (rw c.in-Some.is at found.reaches)))
