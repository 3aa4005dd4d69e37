use Rattle.std.proofs.Common.{List, refl, sym, ap, subst, arith}
use Rattle.dispatch_engine.proofs.Common.{point_count, travel_time, SettledVehicle, Stop, Task, IsOrderOf, ReachesAll}
use Rattle.dispatch_engine.proofs.lemmas.outcome.TripLemmas.{valid_task, vehicle_read, passengers_few, late_order}
use Rattle.dispatch_engine.proofs.outcome.late.late_line.Goals as goal

pub least_delay_unlimited-requires-clause-valid : goal.least_delay_unlimited-requires-clause-valid
least_delay_unlimited-requires-clause-valid c =
    valid_task c.args.instance.now.settled.now c.args.vehicle (point_count c.args.instance.now.times.now) (travel_time c.args.instance.now.times.now)
    c.task_of-task.result (c.args.instance.now.settings.now.trip, c.requires.sound) c.requires.vehicle c.task_of-task.ensures

pub returns-in-None : goal.returns-in-None
returns-in-None c =
    let tau = travel_time c.args.instance.now.times.now in
    let none = rw c.in-None.is at c.in_ok-least_delay_unlimited.ensures.none in
    record {
      vehicle = ap (λ (v : SettledVehicle). v.id) (vehicle_read c.args.instance.now.settled.now c.as_slice.result.now c.args.vehicle _ c.as_slice.ensures
          c.requires.vehicle);
      stops = (subst (λ (t : Task). (others : List Stop) → IsOrderOf t others → ReachesAll tau t others → ⊥) c.task_of-task.ensures none, refl);
    }

pub returns-in-Some : goal.returns-in-Some
returns-in-Some c =
    let found = c.in_ok-least_delay_unlimited.ensures in
    record {
      vehicle = ap (λ (v : SettledVehicle). v.id) (vehicle_read c.args.instance.now.settled.now c.as_slice.result.now c.args.vehicle _ c.as_slice.ensures
          c.requires.vehicle);
      stops = late_order c.args.instance.now.points.now (travel_time c.args.instance.now.times.now) c.args.instance.now.settled.now c.args.vehicle
          c.in-Some.route.delay c.tell_stops-stops.result.items c.task_of-task.result c.in-Some.route.stops.items
          c.task_of-task.ensures
          (record {
            order = rw c.in-Some.is at found.order;
            reaches = rw c.in-Some.is at found.reaches;
            has_delay =
                sym (rw c.in-Some.is at found.delay);
            least = rw c.in-Some.is at found.least;
          })
          (rw c.as_slice-order.ensures.value at c.tell_stops-stops.ensures);
    }

pub tell_stops-stops-requires : goal.tell_stops-stops-requires
tell_stops-stops-requires c =
    let task = c.task_of-task.result in
    let found : IsOrderOf task c.in-Some.route.stops.items = rw c.in-Some.is at c.in_ok-least_delay_unlimited.ensures.order in
    let order : IsOrderOf task c.as_slice-order.result.now = subst (IsOrderOf task) (sym c.as_slice-order.ensures.value) found in
    let valid = valid_task c.args.instance.now.settled.now c.args.vehicle (point_count c.args.instance.now.times.now)
    (travel_time c.args.instance.now.times.now) task (c.args.instance.now.settings.now.trip, c.requires.sound) c.requires.vehicle
    c.task_of-task.ensures in (
      omega arith,
      (
        c.requires.vehicle,
        (
          λ i d lt. absurd (omega arith),
          (
            c.task_of-task.ensures,
            (
              valid,
              (
                order,
                passengers_few (point_count c.args.instance.now.times.now) task c.as_slice-order.result.now valid
                    (ap (λ (t : Task). t.riders.items) c.task_of-task.ensures) order,
              ),
            ),
          ),
        ),
      ),
    )
