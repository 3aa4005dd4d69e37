use Rattle.std.proofs.Common.{◌<◌, arith}
use Rattle.stop_orders.proofs.Common.{travel_time, task_riders, task_passengers}
use Rattle.stop_orders.proofs.search.AheadLemmas.{leg_read, rider_more, rider_stuck, passenger_more, passenger_stuck}
use Rattle.stop_orders.proofs.search.ahead.look_ahead.Goals as goal

pub returns-in_err-delay-clause-none : goal.returns-in_err-delay-clause-none
returns-in_err-delay-clause-none c =
    let within : c.loop-i.i < task_riders c.args.task.now = omega (arith, c.loop-i-test.true, c.len-i-end.ensures.value) in
    let leg = leg_read c.args.task.now.riders.items c.deref.result.now c.loop-i.i c.index-deref-i.result c.deref.ensures.0 c.index-deref-i.is within in
    rw c.from_residual.ensures (λ riders _. rider_stuck (travel_time c.args.times.now) c.args.task.now c.args.label.now c.loop-i.i c.index-deref-i.result _ _
    leg c.is_picked-picked.ensures c.is_dropped-dropped.ensures c.in_err-delay.ensures (riders c.loop-i.i within))

pub loop-i-preserved : goal.loop-i-preserved
loop-i-preserved c =
    let within : c.loop-i.i < task_riders c.args.task.now = omega (arith, c.loop-i-test.true, c.len-i-end.ensures.value) in
    let leg = leg_read c.args.task.now.riders.items c.deref.result.now c.loop-i.i c.index-deref-i.result c.deref.ensures.0 c.index-deref-i.is within in
    let late = c.in_ok-delay.ensures in (
      rider_more (travel_time c.args.times.now) c.args.task.now c.args.label.now c.loop-i.i c.index-deref-i.result _ _ c.loop-i.delay c.in_ok-delay.field-0 leg
          c.is_picked-picked.ensures c.is_dropped-dropped.ensures late.1 c.loop-i.invariant.0,
      omega (arith, late.2, c.loop-i.invariant.1),
    )

pub returns-in_err-delay-2-clause-none : goal.returns-in_err-delay-2-clause-none
returns-in_err-delay-2-clause-none c =
    let within : c.loop-j.j < task_passengers c.args.task.now = omega (arith, c.loop-j-test.true, c.len-j-end.ensures.value) in
    let leg = leg_read c.args.task.now.aboard.items c.deref-in-loop-j.result.now c.loop-j.j c.index-deref-j.result c.deref-in-loop-j.ensures.0
    c.index-deref-j.is within in
    rw c.from_residual-in_err-delay-2.ensures (λ _ passengers. passenger_stuck (travel_time c.args.times.now) c.args.task.now c.args.label.now c.loop-j.j
    c.index-deref-j.result _ leg c.is_out-out.ensures c.in_err-delay-2.ensures (passengers c.loop-j.j within))

pub overflow_add-delay-in-loop-j : goal.overflow_add-delay-in-loop-j
overflow_add-delay-in-loop-j c = record {
  fits = omega (
    arith,
    c.loop-j.invariant.1,
    c.in_ok-delay-2.ensures.2,
    c.loop-j-test.true,
    c.len-j-end.ensures.value,
    c.requires.valid.passenger_count,
  );
}

pub loop-j-preserved : goal.loop-j-preserved
loop-j-preserved c =
    let within : c.loop-j.j < task_passengers c.args.task.now = omega (arith, c.loop-j-test.true, c.len-j-end.ensures.value) in
    let leg = leg_read c.args.task.now.aboard.items c.deref-in-loop-j.result.now c.loop-j.j c.index-deref-j.result c.deref-in-loop-j.ensures.0
    c.index-deref-j.is within in
    let late = c.in_ok-delay-2.ensures in (
      passenger_more (travel_time c.args.times.now) c.args.task.now c.args.label.now c.loop-j.j c.index-deref-j.result _ c.loop-j.delay
          c.in_ok-delay-2.field-0 _
          leg c.is_out-out.ensures late.1 c.loop-j.invariant.0,
      omega (arith, late.2, c.loop-j.invariant.1),
    )
