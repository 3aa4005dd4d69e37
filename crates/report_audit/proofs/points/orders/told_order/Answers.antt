use Rattle.std.proofs.Common.{◌≡◌, List, sym, ap, ◌∙◌, subst}
use Rattle.report_audit.proofs.Common.{both_ways, travel_time, Stop, Task, trip_task, IsOrderOf, told_stops}
use Rattle.report_audit.proofs.points.orders.told_order.Goals as goal

pub returns-in_default-clause-none : goal.returns-in_default-clause-none
returns-in_default-clause-none c = λ stops o is.
    let own : IsOrderOf (trip_task c.args.instance.now.settled.now c.args.vehicle c.args.trip.now) stops =
    subst (λ (t : Task). IsOrderOf t stops) c.requires.task o in
    rw c.in_default.is at (c.read_order.ensures c.args.instance.now.points.now (travel_time c.args.instance.now.times.now) stops own is)

pub returns-then-not-is_order-clause-none : goal.returns-then-not-is_order-clause-none
returns-then-not-is_order-clause-none c = λ stops o is.
    let own : IsOrderOf (trip_task c.args.instance.now.settled.now c.args.vehicle c.args.trip.now) stops =
    subst (λ (t : Task). IsOrderOf t stops) c.requires.task o in
    let read : c.in-Some.order.items ≡ stops = rw c.in-Some.is at (c.read_order.ensures c.args.instance.now.points.now
    (travel_time c.args.instance.now.times.now) stops own is) in
    let slice : c.as_slice.result.now ≡ stops = c.as_slice.ensures.value ∙ read in
    both_ways _ c.if-not-is_order.true (c.is_order.ensures.1 (subst (λ (xs : List Stop). IsOrderOf c.args.task.now xs) (sym slice) o))

pub returns-then-not-are_same_stops-clause-none : goal.returns-then-not-are_same_stops-clause-none
returns-then-not-are_same_stops-clause-none c = λ stops o is.
    let own : IsOrderOf (trip_task c.args.instance.now.settled.now c.args.vehicle c.args.trip.now) stops =
    subst (λ (t : Task). IsOrderOf t stops) c.requires.task o in
    let read : c.in-Some.order.items ≡ stops = rw c.in-Some.is at (c.read_order.ensures c.args.instance.now.points.now
    (travel_time c.args.instance.now.times.now) stops own is) in
    let told : c.as_slice-3.result.now ≡ c.args.told.now =
    c.as_slice-3.ensures.value ∙ c.tell_stops-stops.ensures
    ∙ ap (λ (xs : List Stop). told_stops c.args.instance.now.points.now (travel_time c.args.instance.now.times.now) c.args.instance.now.settled.now
    c.args.vehicle c.args.trip.now xs) (c.as_slice-2.ensures.value ∙ read) ∙ sym is in
    both_ways _ c.if-not-are_same_stops.true (c.are_same_stops.ensures.1 told)

pub returns-clause-only : goal.returns-clause-only
returns-clause-only c = λ stops o is.
    let own : IsOrderOf (trip_task c.args.instance.now.settled.now c.args.vehicle c.args.trip.now) stops =
    subst (λ (t : Task). IsOrderOf t stops) c.requires.task o in
    rw c.in-Some.is at (c.read_order.ensures c.args.instance.now.points.now (travel_time c.args.instance.now.times.now) stops own is)
