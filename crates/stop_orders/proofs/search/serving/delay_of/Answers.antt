use Rattle.stop_orders.proofs.lemmas.search.ScanLemmas.{delay_first, DelayScan, delay_next, delay_stuck, delay_last}
use Rattle.std.proofs.Common.{◌+◌, ◌<◌, get_or, drop, length, subst, sym, ap, ◌∙◌, arith}
use Rattle.stop_orders.proofs.Common.{drop_more, All-from_recursion, point_count, travel_time, Pick, IsKnown, place_of, lateness}
use Rattle.std.proofs.lemmas.List.{drop_all}
use Rattle.stop_orders.proofs.lemmas.task.VisitLemmas.{visit_place}
use Rattle.stop_orders.proofs.search.serving.delay_of.Goals as goal

pub loop-stop-init : goal.loop-stop-init
loop-stop-init c = delay_first _ _ _ _ c.requires.valid c.requires.order

pub visit_of-visit-requires : goal.visit_of-visit-requires
visit_of-visit-requires c = All-from_recursion (IsKnown (length c.args.task.now.riders.items) (length c.args.task.now.aboard.items)) c.args.stops.now
    c.requires.order.known c.loop-stop.stop-index (Pick 0) c.loop-stop-test.true

pub arrival-requires-clause-to : goal.arrival-requires-clause-to
arrival-requires-clause-to c =
    let place = visit_place _ c.args.task.now c.requires.valid (get_or c.args.stops.now c.loop-stop.stop-index (Pick 0))
    (All-from_recursion (IsKnown (length c.args.task.now.riders.items) (length c.args.task.now.aboard.items)) c.args.stops.now c.requires.order.known
    c.loop-stop.stop-index (Pick 0) c.loop-stop-test.true) in
    subst (λ n. n < point_count c.args.times.now) (sym (c.place-to.ensures ∙ ap (λ v. place_of v) c.visit_of-visit.ensures)) place

pub returns-in_err-second : goal.returns-in_err-second
returns-in_err-second c =
    let stops = c.args.stops.now in
    let i = c.loop-stop.stop-index in
    let scan = subst (λ rest. DelayScan (point_count c.args.times.now) (travel_time c.args.times.now) c.args.task.now stops rest c.loop-stop.place
    c.loop-stop.free c.loop-stop.delay) (drop_more stops i (Pick 0) c.loop-stop-test.true) c.loop-stop.invariant in
    let there = c.place-to.ensures ∙ ap (λ v. place_of v) c.visit_of-visit.ensures in
    rw c.from_residual.ensures (delay_stuck _ _ c.args.task.now stops c.requires.valid (get_or stops i (Pick 0)) (drop (i + 1) stops) c.loop-stop.place
    c.loop-stop.free c.loop-stop.delay c.place-to.result scan there c.in_err-second.ensures)

pub overflow_add-free : goal.overflow_add-free
overflow_add-free c = record { fits = omega (arith, c.in_ok-second.ensures.2, c.loop-stop.invariant.soon, c.requires.valid.dwell) }

pub loop-stop-preserved : goal.loop-stop-preserved
loop-stop-preserved c =
    let stops = c.args.stops.now in
    let i = c.loop-stop.stop-index in
    let scan = subst (λ rest. DelayScan (point_count c.args.times.now) (travel_time c.args.times.now) c.args.task.now stops rest c.loop-stop.place
    c.loop-stop.free c.loop-stop.delay) (drop_more stops i (Pick 0) c.loop-stop-test.true) c.loop-stop.invariant in
    let there = c.place-to.ensures ∙ ap (λ v. place_of v) c.visit_of-visit.ensures in
    let inside = subst (λ n. n < point_count c.args.times.now) (sym there) (visit_place _ c.args.task.now c.requires.valid (get_or stops i (Pick 0))
    (All-from_recursion (IsKnown (length c.args.task.now.riders.items) (length c.args.task.now.aboard.items)) c.args.stops.now c.requires.order.known
    c.loop-stop.stop-index (Pick 0) c.loop-stop-test.true)) in
    let arrives = c.in_ok-second.ensures in
    let late = c.lateness-delay.ensures.value ∙ ap (λ v. lateness v c.in_ok-second.second) c.visit_of-visit.ensures in
    delay_next _ _ c.args.task.now stops c.requires.valid (get_or stops i (Pick 0)) (drop (i + 1) stops) c.loop-stop.place c.loop-stop.free c.loop-stop.delay
    c.place-to.result c.in_ok-second.second c.lateness-delay.result scan there inside arrives.0 arrives.1 arrives.2 late c.lateness-delay.ensures.within

pub returns : goal.returns
returns c = delay_last _ _ _ _ c.requires.valid (drop c.loop-stop.stop-index c.args.stops.now) c.loop-stop.place c.loop-stop.free c.loop-stop.delay
    (drop_all c.loop-stop.stop-index c.args.stops.now c.loop-stop-test.false) c.loop-stop.invariant
