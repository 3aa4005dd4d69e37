use Rattle.std.proofs.Common.{◌≡◌, ◌<◌, ◌≤◌, ◌∷◌, ◌++◌, [], subst, sym, ◌∙◌, arith, All}
use Rattle.stop_orders.proofs.Common.{
  All-push,
  point_count,
  travel_time,
  left_count,
  task_riders,
  task_passengers,
  labels_of,
  IsLabelPlaced,
  IsLabelDone,
  route_of,
  Priced,
}
use Rattle.stop_orders.proofs.lemmas.search.PlainLemmas.{IsAllDone-at, IsAllDone-not_at}
use Rattle.std.proofs.lemmas.Bool.{true≢false}
use Rattle.stop_orders.proofs.search.SearchLemmas.{on_ok, exhausted_all}
use Rattle.stop_orders.proofs.search.CostLemmas.{next_small, prices_more, prices_searched, exhausted_persons, priced_better}
use Rattle.stop_orders.proofs.search.cost.+try_costs.Goals as goal

pub try_costs-requires : goal.try_costs-requires
try_costs-requires t c =
    let task = c.args.task.now in
    let is = c.in-Some.ensures in
    let small = next_small (point_count c.args.times.now) (travel_time c.args.times.now) c.args.times.now.table.times task c.requires.valid c.args.label.now
    c.in-Some.next is.stop c.requires.small is.only.next is.can is.is in
    let measure = c.decreases in
    let left = small.1 in
    let less : left_count (task_riders task) (task_passengers task) c.in-Some.next.done < t = omega (arith, left, measure) in
    (less, (c.requires.valid, (small.0, c.loop-person.invariant.settled)))

pub loop-person-preserved-in_default : goal.loop-person-preserved-in_default
loop-person-preserved-in_default t c =
    prices_more (point_count c.args.times.now) (travel_time c.args.times.now) c.args.times.now.table.times c.args.task.now c.requires.valid c.args.label.now
    c.loop-person.person c.args.best.now c.loop-person.best (labels_of c.loop-person.store)
    c.in_default.ensures c.loop-person.invariant

pub loop-person-preserved : goal.loop-person-preserved
loop-person-preserved t c =
    prices_searched (point_count c.args.times.now) (travel_time c.args.times.now) c.args.times.now.table.times c.args.task.now c.requires.valid c.args.label.now
    c.in-Some.next c.loop-person.person c.args.best.now c.loop-person.best c.try_costs.new.best
    (labels_of c.loop-person.store) (labels_of c.try_costs.new.store) c.in-Some.ensures c.in_ok-try_costs.ensures c.loop-person.invariant

pub returns-then-is_less : goal.returns-then-is_less
returns-then-is_less t c =
    let task = c.args.task.now in
    let label = c.args.label.now in
    let all = IsAllDone-at _ _ (task_riders task) (task_passengers task) label.done c.len.ensures.value c.len-2.ensures.value
    (c.is_all.ensures.0 c.if-is_all.true) in
    priced_better (point_count c.args.times.now) (travel_time c.args.times.now) c.args.times.now.table.times task c.requires.valid label c.args.best.now
    (labels_of c.args.store.now) all
    (λ n. true≢false (sym c.if-is_less.true ∙ c.is_less.ensures.1 n)) c.requires.settled

pub returns-then-not-is_of_use : goal.returns-then-not-is_of_use
returns-then-not-is_of_use t c =
    let task = c.args.task.now in
    let label = c.args.label.now in
    let more = IsAllDone-not_at _ _ _ (task_riders task) (task_passengers task) label.done c.len.ensures.value c.len-2.ensures.value c.is_all.ensures
    c.if-is_all.false in
    let inv = c.loop-person.invariant in
    record {
      found = inv.found;
      good = inv.good;
      exhausted = exhausted_persons (point_count c.args.times.now) (travel_time c.args.times.now) c.args.times.now.table.times task c.requires.valid label
          c.loop-person.person (route_of c.loop-person.best) more
          (omega (arith, c.loop-person-test.false, c.len-3.ensures.value, c.len-4.ensures.value)) inv.tried;
      settled = inv.settled;
    }

pub returns : goal.returns
returns t c =
    let task = c.args.task.now in
    let label = c.args.label.now in
    let tau = travel_time c.args.times.now in
    let points = point_count c.args.times.now in
    let best = c.loop-person.best in
    let more = IsAllDone-not_at _ _ _ (task_riders task) (task_passengers task) label.done c.len.ensures.value c.len-2.ensures.value c.is_all.ensures
    c.if-is_all.false in
    let inv = c.loop-person.invariant in
    let exhausted = exhausted_persons points tau c.args.times.now.table.times task c.requires.valid label c.loop-person.person (route_of best) more
    (omega (arith, c.loop-person-test.false, c.len-3.ensures.value, c.len-4.ensures.value)) inv.tried in
    let free : label.free ≤ 30000000000 = omega (arith, c.requires.small.free) in
    let placed : IsLabelPlaced points label = record { place = c.requires.small.place; free = free } in
    let settled : IsLabelDone points tau task (route_of best) label = record { placed = placed; exhausted = exhausted } in
    on_ok c.keep.result (labels_of c.keep.new.self ≡ labels_of c.loop-person.store ++ label ∷ [])
    (Priced points tau task label c.args.best.now best (labels_of c.keep.new.self)) (λ e. record {
      found = inv.found;
      good = inv.good;
      exhausted = exhausted;
      settled = subst (λ ls. All (IsLabelDone points tau task (route_of best)) ls) (sym e) (All-push (IsLabelDone points tau task (route_of best))
          (labels_of c.loop-person.store) label inv.settled settled);
    }) c.keep.ensures

pub returns-else-is_less : goal.returns-else-is_less
returns-else-is_less t c =
    let task = c.args.task.now in
    let all = IsAllDone-at _ _ (task_riders task) (task_passengers task) c.args.label.now.done c.len.ensures.value c.len-2.ensures.value
    (c.is_all.ensures.0 c.if-is_all.true) in
    let exhausted = exhausted_all (point_count c.args.times.now) (travel_time c.args.times.now) c.args.times.now.table.times c.args.task.now c.requires.valid
    c.args.label.now (route_of c.args.best.now) all (c.is_less.ensures.0 c.if-is_less.false) in
    record { found = λ path leads was. was; good = λ d n. n; exhausted = exhausted; settled = c.requires.settled }

pub loop-person-init : goal.loop-person-init
loop-person-init t c = record { found = λ path leads was. was; good = λ d n. n; tried = λ k h. absurd (omega (arith, h)); settled = c.requires.settled }
