use Rattle.std.proofs.Common.{◌≡◌, ◌+◌, get_or, drop, length, subst, refl}
use Rattle.stop_orders.proofs.Common.{drop_more, All-from_recursion, point_count, travel_time, Pick, IsKnown, CanVisitFrom, position_after, false≢true}
use Rattle.stop_orders.proofs.lemmas.task.VisitLemmas.{visit_place}
use Rattle.stop_orders.proofs.lemmas.search.ScanLemmas.{ServingScan, serving_first, serving_next, serving_stuck, serving_last}
use Rattle.std.proofs.lemmas.List.{drop_all}
use Rattle.stop_orders.proofs.search.serving.serves.Goals as goal

pub loop-stop-init : goal.loop-stop-init
loop-stop-init c = serving_first _ _ _ _ c.requires.valid (c.is_order.ensures.0 c.if-not-is_order.false) _ c.first_position_of-position.ensures

pub visit_of-visit-requires : goal.visit_of-visit-requires
visit_of-visit-requires c = All-from_recursion (IsKnown (length c.args.task.now.riders.items) (length c.args.task.now.aboard.items)) c.args.stops.now
    c.loop-stop.invariant.order.known c.loop-stop.stop-index (Pick 0) c.loop-stop-test.true

pub position_after_visit-requires-clause-to : goal.position_after_visit-requires-clause-to
position_after_visit-requires-clause-to c = rw c.visit_of-visit.ensures (visit_place _ c.args.task.now c.requires.valid
    (get_or c.args.stops.now c.loop-stop.stop-index (Pick 0))
    (All-from_recursion (IsKnown (length c.args.task.now.riders.items) (length c.args.task.now.aboard.items)) c.args.stops.now c.loop-stop.invariant.order.known
    c.loop-stop.stop-index (Pick 0) c.loop-stop-test.true))

pub loop-stop-preserved : goal.loop-stop-preserved
loop-stop-preserved c =
    let tau = travel_time c.args.times.now in
    let task = c.args.task.now in
    let stops = c.args.stops.now in
    let i = c.loop-stop.stop-index in
    let here = c.loop-stop.position in
    let scan = subst (λ rest. ServingScan (point_count c.args.times.now) tau task stops rest here) (drop_more stops i (Pick 0) c.loop-stop-test.true)
    c.loop-stop.invariant in
    let served = subst (λ v. CanVisitFrom tau here v × (c.in-Some.next ≡ position_after tau task.dwell here v)) c.visit_of-visit.ensures c.in-Some.ensures in
    serving_next _ tau task stops c.requires.valid (get_or stops i (Pick 0)) (drop (i + 1) stops) here c.in-Some.next scan served.0 served.1

pub returns-in_default : goal.returns-in_default
returns-in_default c =
    let stops = c.args.stops.now in
    let i = c.loop-stop.stop-index in
    let here = c.loop-stop.position in
    let scan = subst (λ rest. ServingScan (point_count c.args.times.now) (travel_time c.args.times.now) c.args.task.now stops rest here)
    (drop_more stops i (Pick 0) c.loop-stop-test.true) c.loop-stop.invariant in
    let never = subst (λ v. CanVisitFrom (travel_time c.args.times.now) here v → ⊥) c.visit_of-visit.ensures c.in_default.ensures in (
      λ f. absurd (false≢true f),
      λ serves. absurd (serving_stuck _ _ c.args.task.now stops c.requires.valid (get_or stops i (Pick 0)) (drop (i + 1) stops) here
          scan never serves),
    )

pub returns : goal.returns
returns c =
    let none = drop_all c.loop-stop.stop-index c.args.stops.now c.loop-stop-test.false in
    (λ _. serving_last _ _ _ _ c.requires.valid (drop c.loop-stop.stop-index c.args.stops.now) c.loop-stop.position none c.loop-stop.invariant, λ _. refl)
