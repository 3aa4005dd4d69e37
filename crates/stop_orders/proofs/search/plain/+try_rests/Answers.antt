use Rattle.std.proofs.Common.{◌≡◌, ◌<◌, ◌≤◌, ◌+◌, ◌∷◌, ◌++◌, [], List, length, length-append, Option, subst, sym, ap, ◌∙◌, arith, inl, inr, ℕ, refl}
use Rattle.stop_orders.proofs.Common.{
  cases_eq,
  travel_time,
  Stop,
  Route,
  Task,
  IsOrderOf,
  Serves,
  order_delay,
  bit_of,
  IsNextStop,
  with_stop,
  left_count,
  stop_with,
  NoneBetter,
  MakesOrders,
  StaysGood,
  IsFound,
  AllTried,
  IsKnown,
  Pick,
  Drop,
  Alight,
}
use Rattle.stop_orders.proofs.lemmas.task.DoneLemmas.{left_count-falls}
use Rattle.stop_orders.proofs.lemmas.search.PlainLemmas.{
  MakesOrders-all,
  MakesOrders-next,
  AllTried-all,
  AllTried-next,
  AllTried-kept,
  IsNextStop-at,
  IsNextStop-not_at,
  IsAllDone-at,
  IsAllDone-not_at,
  stop_with-bit_of,
  path_back,
}
use Rattle.stop_orders.proofs.search.plain.+try_rests.Invariants.{NextTried}
use Rattle.stop_orders.proofs.search.plain.+try_rests.Goals.{then-is_next, else-is_next}
use Rattle.stop_orders.proofs.search.plain.+try_rests.Goals as goal

pub keep_better-requires-clause-order : goal.keep_better-requires-clause-order
keep_better-requires-clause-order t c =
    let all = IsAllDone-at _ _ _ _ c.args.done c.len-riders.ensures.value c.len-passengers.ensures.value (c.is_all.ensures.0 c.if-is_all.true) in
    subst (λ stops. IsOrderOf c.args.task.now stops) (sym c.deref.ensures.0) (MakesOrders-all c.args.task.now c.requires.valid.rider_count c.args.done
    c.args.path.now.items all c.requires.orders)

pub returns-then-is_all-clause-tried : goal.returns-then-is_all-clause-tried
returns-then-is_all-clause-tried t c =
    let tau = travel_time c.args.times.now in
    let all = IsAllDone-at _ _ _ _ c.args.done c.len-riders.ensures.value c.len-passengers.ensures.value (c.is_all.ensures.0 c.if-is_all.true) in
    AllTried-all c.args.task.now c.requires.valid.rider_count tau c.args.done c.args.path.now.items c.keep_better.new.best all
    (subst (λ stops. Serves tau c.args.task.now stops → NoneBetter c.keep_better.new.best (order_delay tau c.args.task.now stops)) c.deref.ensures.0
    c.keep_better.ensures.tried)

pub push-requires : goal.push-requires
push-requires t c =
    let task = c.args.task.now in
    let next = IsNextStop-at _ _ (length task.riders.items) (length task.aboard.items) c.args.done c.stop_of-stop.result c.len-riders.ensures.value
    c.len-passengers.ensures.value (c.is_next.ensures.0 c.if-is_next.true) in
    let fall = left_count-falls (length task.riders.items) (length task.aboard.items) c.args.done c.requires.valid.rider_count c.stop_of-stop.result next in
    let same : length c.loop-k.path.items ≡ length c.args.path.now.items = ap length c.loop-k.invariant.same in
    let room : length c.loop-k.path.items < 22 = omega (arith, c.requires.room, fall, same) in
    (omega arith, room)

pub try_rests-requires : goal.try_rests-requires
try_rests-requires t c =
    let task = c.args.task.now in
    let s = c.stop_of-stop.result in
    let next = IsNextStop-at _ _ (length task.riders.items) (length task.aboard.items) c.args.done s c.len-riders.ensures.value c.len-passengers.ensures.value
    (c.is_next.ensures.0 c.if-is_next.true) in
    let fall = left_count-falls (length task.riders.items) (length task.aboard.items) c.args.done c.requires.valid.rider_count s next in
    let same : c.push.new.self.items ≡ c.args.path.now.items ++ s ∷ [] = c.push.ensures.items ∙ ap (λ xs. xs ++ s ∷ []) c.loop-k.invariant.same in
    let here = MakesOrders-next task c.requires.valid.rider_count c.args.done c.args.path.now.items s next c.requires.orders in
    let left : left_count (length task.riders.items) (length task.aboard.items) c.with.result + 1 ≤ left_count (length task.riders.items)
    (length task.aboard.items) c.args.done =
    subst (λ d. left_count (length task.riders.items) (length task.aboard.items) d + 1 ≤ left_count (length task.riders.items) (length task.aboard.items)
    c.args.done) (sym c.with.ensures) fall in
    let longer : length c.push.new.self.items ≡ length c.args.path.now.items + 1 = ap length same ∙ length-append c.args.path.now.items (s ∷ []) in
    let measure = c.decreases in
    let less : left_count (length task.riders.items) (length task.aboard.items) c.with.result < t = omega (arith, left, measure) in (
      less,
      (
        c.requires.valid,
        (
          subst (λ d. MakesOrders task d c.push.new.self.items) (sym c.with.ensures) (subst (λ p. MakesOrders task (with_stop c.args.done s) p) (sym same)
              here),
          (omega (arith, left, longer, c.requires.room), c.loop-k.invariant.found),
        ),
      ),
    )

-- a next stop is known in any task
known_wide : (riders passengers done : ℕ) (s : Stop) → riders ≤ 6 → passengers ≤ 10 → IsNextStop riders passengers done s → IsKnown 6 10 s
known_wide riders passengers done (Pick i) few fewer next = omega (arith, next.0)
known_wide riders passengers done (Drop i) few fewer next = omega (arith, next.0)
known_wide riders passengers done (Alight j) few fewer next = omega (arith, next.0)

-- one more stop is tried
next_tried : (tau : ℕ → ℕ → ℕ) (task : Task) (done k : ℕ) (path before after : List Stop) (first old new : Option Route) → length task.riders.items ≤ 6 →
    length task.aboard.items ≤ 10 → after ≡ path → IsFound tau task new → StaysGood old new
    → NextTried tau task done path before first old k
    → (IsNextStop (length task.riders.items) (length task.aboard.items) done (stop_with k) →
    AllTried tau task (with_stop done (stop_with k)) (path ++ stop_with k ∷ []) new)
    → NextTried tau task done path after first new (k + 1)
next_tried tau task done k path before after first old new few seated same found kept so_far here = record {
  same = same;
  found = found;
  kept = λ d g. kept d (so_far.kept d g);
  tried = λ s next below. elim (cases_eq (bit_of s) k) [
    | inl e ↦
        let is : stop_with k ≡ s = subst (λ b. stop_with b ≡ s) e (stop_with-bit_of (length task.riders.items) (length task.aboard.items) done few seated s
        next).0 in
        subst (λ r. IsNextStop (length task.riders.items) (length task.aboard.items) done r → AllTried tau task (with_stop done r) (path ++ r ∷ []) new) is here
        next
    | inr ne ↦ AllTried-kept task few tau (with_stop done s) (path ++ s ∷ []) old new kept (so_far.tried s next (omega arith))
  ];
}

pub loop-k-preserved : goal.loop-k-preserved
loop-k-preserved t c =
    let task = c.args.task.now in
    let tau = travel_time c.args.times.now in
    let done = c.args.done in
    let path = c.args.path.now.items in
    let s = c.stop_of-stop.result in
    let few = c.requires.valid.rider_count in
    let seated = c.requires.valid.passenger_count in
    elim c.if-is_next.branch [
      | then-is_next w ↦
          let pushed : w.push.new.self.items ≡ path ++ s ∷ [] = w.push.ensures.items ∙ ap (λ xs. xs ++ s ∷ []) c.loop-k.invariant.same in
          let tried : AllTried tau task (with_stop done s) (path ++ s ∷ []) w.try_rests.new.best =
          subst (λ p. AllTried tau task (with_stop done s) p w.try_rests.new.best) pushed (subst
          (λ d. AllTried tau task d w.push.new.self.items w.try_rests.new.best) w.with.ensures w.try_rests.ensures.tried) in
          let back : c.if-is_next.path.items ≡ path =
          ap (λ v. v.items) w.path-is ∙ path_back path w.try_rests.new.path.items w.pop.new.self.items s (w.try_rests.ensures.path ∙ pushed)
          w.pop.ensures.rest in
          let best : w.try_rests.new.best ≡ c.if-is_next.best = sym w.best-is in
          next_tried tau task done c.loop-k.k path c.loop-k.path.items c.if-is_next.path.items c.args.best.now c.loop-k.best c.if-is_next.best few seated back
          (subst (λ b. IsFound tau task b) best w.try_rests.ensures.found) (subst (λ b. StaysGood c.loop-k.best b) best w.try_rests.ensures.kept)
          c.loop-k.invariant
          (λ _. subst (λ r. AllTried tau task (with_stop done r) (path ++ r ∷ []) c.if-is_next.best) c.stop_of-stop.ensures
          (subst (λ b. AllTried tau task (with_stop done s) (path ++ s ∷ []) b) best tried))
      | else-is_next w ↦
          let best : c.loop-k.best ≡ c.if-is_next.best = sym w.best-is in
          next_tried tau task done c.loop-k.k path c.loop-k.path.items c.if-is_next.path.items c.args.best.now c.loop-k.best c.if-is_next.best few seated
          (ap (λ v. v.items) w.path-is ∙ c.loop-k.invariant.same)
          (subst (λ b. IsFound tau task b) best c.loop-k.invariant.found) (subst (λ b. StaysGood c.loop-k.best b) best (λ _ g. g)) c.loop-k.invariant
          (λ next. absurd (IsNextStop-not_at _ _ _ _ _ done s c.len-riders.ensures.value c.len-passengers.ensures.value c.is_next.ensures w.if-is_next.false
          (subst (λ r. IsNextStop (length task.riders.items) (length task.aboard.items) done r) (sym c.stop_of-stop.ensures) next)))
    ]

pub returns-clause-tried : goal.returns-clause-tried
returns-clause-tried t c =
    let task = c.args.task.now in
    let tau = travel_time c.args.times.now in
    let more = IsAllDone-not_at _ _ _ _ _ c.args.done c.len-riders.ensures.value c.len-passengers.ensures.value c.is_all.ensures c.if-is_all.false in
    AllTried-next task c.requires.valid.rider_count tau c.args.done c.args.path.now.items c.loop-k.best more (λ s next.
    c.loop-k.invariant.tried s next (omega (
      arith,
      (stop_with-bit_of (length task.riders.items) (length task.aboard.items) c.args.done
          c.requires.valid.rider_count c.requires.valid.passenger_count s next).1,
      c.loop-k-test.false,
    )))

pub loop-k-init : goal.loop-k-init
loop-k-init t c = record { same = refl; found = c.requires.found; kept = λ d g. g; tried = λ s next below. absurd (omega (arith, below)) }

pub with-requires : goal.with-requires
with-requires t c =
    let task = c.args.task.now in
    let next = IsNextStop-at _ _ (length task.riders.items) (length task.aboard.items) c.args.done c.stop_of-stop.result c.len-riders.ensures.value
    c.len-passengers.ensures.value (c.is_next.ensures.0 c.if-is_next.true) in
    known_wide (length task.riders.items) (length task.aboard.items) c.args.done c.stop_of-stop.result c.requires.valid.rider_count
    c.requires.valid.passenger_count next
