use Rattle.std.proofs.Common.{◌≡◌, ap, ◌∙◌, arith}
use Rattle.stop_orders.proofs.Common.{point_count, travel_time, next_label, label_at, labels_of, route_of}
use Rattle.stop_orders.proofs.search.LabelLemmas.{known_next, second_most}
use Rattle.stop_orders.proofs.search.SearchLemmas.{exhausted_none, exhausted_bound, exhausted_dominated, tried_never}
use Rattle.stop_orders.proofs.search.CostLemmas.{tried_only, tried_next, next_small}
use Rattle.stop_orders.proofs.search.cost.label_by.Goals as goal

pub returns-in_default : goal.returns-in_default
returns-in_default c = λ s next e. absurd (c.in_default.ensures s next e)

pub second_of-requires-clause-known : goal.second_of-requires-clause-known
second_of-requires-clause-known c = known_next _ _ _ _ c.in-Some.ensures.next

pub returns-in_default-second_of : goal.returns-in_default-second_of
returns-in_default-second_of c =
    let tau = travel_time c.args.times.now in
    let points = point_count c.args.times.now in
    let time = c.args.times.now.table.times in
    let task = c.args.task.now in
    let label = c.args.label.now in
    let best = route_of c.args.best.now in
    tried_only points tau time task c.requires.valid label c.args.person best c.in-Some.stop c.in-Some.ensures
    (tried_never points tau time task c.requires.valid label c.in-Some.stop best c.in_default-second_of.ensures)

pub label_after-next-requires-clause-known : goal.label_after-next-requires-clause-known
label_after-next-requires-clause-known c = known_next _ _ _ _ c.in-Some.ensures.next

pub label_after-next-requires-clause-second : goal.label_after-next-requires-clause-second
label_after-next-requires-clause-second c =
    second_most (point_count c.args.times.now) (travel_time c.args.times.now) c.args.times.now.table.times c.args.task.now c.requires.valid c.args.label.now
    c.in-Some.stop _ (omega (arith, c.requires.small.free)) c.in-Some-second_of.ensures.0 c.in-Some-second_of.ensures.1

pub label_after-next-requires-clause-seats : goal.label_after-next-requires-clause-seats
label_after-next-requires-clause-seats c = c.in-Some-second_of.ensures.0.2

pub look_ahead-requires : goal.look_ahead-requires
look_ahead-requires c =
    let task = c.args.task.now in
    let label = c.args.label.now in
    let tau = travel_time c.args.times.now in
    let same : c.label_after-next.result ≡ next_label tau task label c.in-Some.stop = c.label_after-next.ensures ∙
    ap (λ n. label_at task label c.in-Some.stop n) c.in-Some-second_of.ensures.1 in
    let small = (next_small (point_count c.args.times.now) tau c.args.times.now.table.times task c.requires.valid label c.label_after-next.result c.in-Some.stop
    c.requires.small c.in-Some.ensures.next c.in-Some-second_of.ensures.0 same).0 in
    record { valid = c.requires.valid; place = small.place; free = omega (arith, small.free) }

pub returns-in_default-look_ahead : goal.returns-in_default-look_ahead
returns-in_default-look_ahead c =
    let tau = travel_time c.args.times.now in
    let points = point_count c.args.times.now in
    let best = route_of c.args.best.now in
    let next = c.label_after-next.result in
    tried_next points tau c.args.times.now.table.times c.args.task.now c.requires.valid c.args.label.now next c.args.person _ best c.in-Some.stop
    c.in-Some.ensures c.in-Some-second_of.ensures.1 c.label_after-next.ensures
    (exhausted_none points tau c.args.times.now.table.times c.args.task.now c.requires.valid next best c.in_default-look_ahead.ensures.none)

pub returns-then-not-is_less : goal.returns-then-not-is_less
returns-then-not-is_less c =
    let tau = travel_time c.args.times.now in
    let points = point_count c.args.times.now in
    let best = route_of c.args.best.now in
    let next = c.label_after-next.result in
    tried_next points tau c.args.times.now.table.times c.args.task.now c.requires.valid c.args.label.now next c.args.person _ best c.in-Some.stop
    c.in-Some.ensures c.in-Some-second_of.ensures.1 c.label_after-next.ensures
    (exhausted_bound points tau c.args.times.now.table.times c.args.task.now c.requires.valid next best c.in-Some-look_ahead.ahead
    c.in-Some-look_ahead.ensures.bound (c.is_less.ensures.0 c.if-not-is_less.true))

pub returns-then-dominates : goal.returns-then-dominates
returns-then-dominates c =
    let tau = travel_time c.args.times.now in
    let points = point_count c.args.times.now in
    let best = route_of c.args.best.now in
    let next = c.label_after-next.result in
    tried_next points tau c.args.times.now.table.times c.args.task.now c.requires.valid c.args.label.now next c.args.person _ best c.in-Some.stop
    c.in-Some.ensures c.in-Some-second_of.ensures.1 c.label_after-next.ensures
    (exhausted_dominated points tau c.args.times.now.table.times c.args.task.now c.requires.valid next best (labels_of c.args.store.now)
    (c.dominates.ensures c.if-dominates.true) c.requires.settled)

pub returns : goal.returns
returns c =
    record {
      stop = c.in-Some.stop;
      only = c.in-Some.ensures;
      can = c.in-Some-second_of.ensures.0;
      is = c.label_after-next.ensures ∙ ap (λ n. label_at c.args.task.now c.args.label.now c.in-Some.stop n) c.in-Some-second_of.ensures.1;
    }

pub overflow_add-next : goal.overflow_add-next
overflow_add-next c =
    let same : c.label_after-next.result ≡ next_label (travel_time c.args.times.now) c.args.task.now c.args.label.now c.in-Some.stop =
    c.label_after-next.ensures ∙ ap (λ n. label_at c.args.task.now c.args.label.now c.in-Some.stop n) c.in-Some-second_of.ensures.1 in
    let small = (next_small (point_count c.args.times.now) (travel_time c.args.times.now) c.args.times.now.table.times c.args.task.now c.requires.valid
    c.args.label.now c.label_after-next.result c.in-Some.stop c.requires.small c.in-Some.ensures.next c.in-Some-second_of.ensures.0 same).0 in
    record { fits = omega (arith, small.delay, c.in-Some-look_ahead.ensures.small) }

pub dominates-requires-clause-placed : goal.dominates-requires-clause-placed
dominates-requires-clause-placed c = λ k d h. (c.requires.settled k d h).placed

pub dominates-requires-clause-place : goal.dominates-requires-clause-place
dominates-requires-clause-place c =
    let same : c.label_after-next.result ≡ next_label (travel_time c.args.times.now) c.args.task.now c.args.label.now c.in-Some.stop =
    c.label_after-next.ensures ∙ ap (λ n. label_at c.args.task.now c.args.label.now c.in-Some.stop n) c.in-Some-second_of.ensures.1 in
    let small = (next_small (point_count c.args.times.now) (travel_time c.args.times.now) c.args.times.now.table.times c.args.task.now c.requires.valid
    c.args.label.now c.label_after-next.result c.in-Some.stop c.requires.small c.in-Some.ensures.next c.in-Some-second_of.ensures.0 same).0 in
    small.place
