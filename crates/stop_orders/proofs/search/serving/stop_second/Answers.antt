use Rattle.std.proofs.Common.{
  ◌≡◌,
  ℕ,
  zero,
  suc,
  ◌+◌,
  ◌-◌,
  ◌<◌,
  ◌≤◌,
  List,
  ◌∷◌,
  length,
  get_or,
  take,
  drop,
  slice_index,
  Option,
  Some,
  None,
  MatchOption,
  subst,
  sym,
  ap,
  ◌∙◌,
  arith,
  length-take,
  add-one,
}
use Rattle.stop_orders.proofs.Common.{
  drop_more,
  All-from_recursion,
  AllByRecursion,
  point_count,
  travel_time,
  never,
  longest,
  Task,
  Visit,
  Stop,
  Pick,
  IsKnown,
  place_of,
  IsTask,
  visit_at,
  ReachesAll,
  seconds_of,
}
use Rattle.std.proofs.lemmas.List.{get_or-take}
use Rattle.stop_orders.proofs.lemmas.task.VisitLemmas.{visit_place}
use Rattle.stop_orders.proofs.lemmas.search.ScanLemmas.{SecondScan, second_first, second_next, second_stuck, second_last}
use Rattle.stop_orders.proofs.search.serving.stop_second.Goals as goal

within_both : (k i : ℕ) (stops : List Stop) → i < length (take k stops) → (i < k) × (i < length stops)
within_both k i stops h = (omega (arith, length-take k stops), omega (arith, length-take k stops))

known_at : (task : Task) (stops : List Stop) (k : ℕ) → AllByRecursion (IsKnown (length task.riders.items) (length task.aboard.items)) stops → k < length stops →
    IsKnown (length task.riders.items) (length task.aboard.items) (get_or stops k (Pick 0))
known_at task stops k known h = All-from_recursion (IsKnown (length task.riders.items) (length task.aboard.items)) stops known k (Pick 0) h

-- the scan at the stop in front
at_stop : (points : ℕ) (tau : ℕ → ℕ → ℕ) (task : Task) (stops : List Stop) (k i place free : ℕ) → i < k → k < length stops →
    SecondScan points tau task stops (drop i stops) k (k - i) place free
    → SecondScan points tau task stops (get_or stops i (Pick 0) ∷ drop (i + 1) stops) k (suc (k - (i + 1))) place free
at_stop points tau task stops k i place free h b scan =
    let e : k - i ≡ suc (k - (i + 1)) = omega arith in
    subst (λ j. SecondScan points tau task stops (get_or stops i (Pick 0) ∷ drop (i + 1) stops) k j place free) e
    (subst (λ rest. SecondScan points tau task stops rest k (k - i) place free) (drop_more stops i (Pick 0) (omega arith)) scan)

-- the place of a stop among the first k
visited : (task : Task) (stops : List Stop) (k i : ℕ) (v : Visit) (to : ℕ) → i < k → v ≡ visit_at task (get_or (take k stops) i (Pick 0)) → to ≡ place_of v →
    to ≡ place_of (visit_at task (get_or stops i (Pick 0)))
visited task stops k i v to h e f = f ∙ ap (λ w. place_of w) (e ∙ ap (λ s. visit_at task s) (get_or-take k stops i (Pick 0) h))

ends_at : (points : ℕ) (tau : ℕ → ℕ → ℕ) (task : Task) (stops : List Stop) (k place free to : ℕ) (r : Option ℕ) → IsTask points task →
    (s : Stop) (rest : List Stop) → SecondScan points tau task stops (s ∷ rest) k zero place free
    → to ≡ place_of (visit_at task s)
    → MatchOption r (tau place to ≡ never) (λ second. (tau place to < never) × (second ≡ free + tau place to) × (second ≤ free + longest))
    → MatchOption r (ReachesAll tau task (take (suc k) stops) → ⊥) (λ second. ReachesAll tau task (take (suc k) stops) ×
    (second ≡ slice_index (seconds_of tau task stops) k))
ends_at points tau task stops k place free to (Some second) valid s rest scan there arrives =
    second_last points tau task stops k valid s rest place free to second scan there arrives.0 arrives.1
ends_at points tau task stops k place free to None valid s rest scan there arrives = λ all. omega (arith, ap (λ x. tau place x) there, arrives, (scan.to all).0)

pub loop-stop-init : goal.loop-stop-init
loop-stop-init c =
    let e : c.args.k ≡ c.args.k - 0 = omega arith in
    subst (λ j. SecondScan (point_count c.args.times.now) (travel_time c.args.times.now) c.args.task.now c.args.stops.now c.args.stops.now c.args.k j
    c.args.task.now.start c.args.task.now.ready) e
    (second_first _ _ _ _ _ c.requires.valid c.requires.order)

pub returns-in_err-second : goal.returns-in_err-second
returns-in_err-second c =
    let tau = travel_time c.args.times.now in
    let task = c.args.task.now in
    let stops = c.args.stops.now in
    let k = c.args.k in
    let i = c.loop-stop.stop-index in
    let within : i < k = (within_both k i stops c.loop-stop-test.true).0 in
    let scan = at_stop (point_count c.args.times.now) tau task stops k i c.loop-stop.place c.loop-stop.free within c.requires.within c.loop-stop.invariant in
    let there : c.place-to.result ≡ place_of (visit_at task (get_or stops i (Pick 0))) = visited task stops k i _ _ within c.visit_of.ensures
    c.place-to.ensures in
    let stuck = second_stuck (point_count c.args.times.now) tau task stops k c.requires.valid (get_or stops i (Pick 0)) (drop (i + 1) stops) (suc (k - (i + 1)))
    c.loop-stop.place c.loop-stop.free c.place-to.result scan there c.in_err-second.ensures in
    rw c.from_residual.ensures (λ all. stuck (subst (λ n. ReachesAll tau task (take n stops)) (add-one k) all))

pub loop-stop-preserved : goal.loop-stop-preserved
loop-stop-preserved c =
    let tau = travel_time c.args.times.now in
    let task = c.args.task.now in
    let stops = c.args.stops.now in
    let k = c.args.k in
    let i = c.loop-stop.stop-index in
    let within : i < k = (within_both k i stops c.loop-stop-test.true).0 in
    let scan = at_stop (point_count c.args.times.now) tau task stops k i c.loop-stop.place c.loop-stop.free within c.requires.within c.loop-stop.invariant in
    let there : c.place-to.result ≡ place_of (visit_at task (get_or stops i (Pick 0))) = visited task stops k i _ _ within c.visit_of.ensures
    c.place-to.ensures in
    let arrives = c.in_ok-second.ensures in
    second_next (point_count c.args.times.now) tau task stops k c.requires.valid (get_or stops i (Pick 0)) (drop (i + 1) stops) (k - (i + 1)) c.loop-stop.place
    c.loop-stop.free c.place-to.result c.in_ok-second.second scan there arrives.0 arrives.1 arrives.2

pub visit_of-requires : goal.visit_of-requires
visit_of-requires c =
    let within = within_both c.args.k c.loop-stop.stop-index c.args.stops.now c.loop-stop-test.true in
    rw (get_or-take c.args.k c.args.stops.now c.loop-stop.stop-index (Pick 0) within.0) (known_at c.args.task.now c.args.stops.now c.loop-stop.stop-index
    c.requires.order.known within.1)

pub visit_of-requires-2 : goal.visit_of-requires-2
visit_of-requires-2 c = known_at c.args.task.now c.args.stops.now c.args.k c.requires.order.known c.requires.within

pub arrival-requires-2-clause-to : goal.arrival-requires-2-clause-to
arrival-requires-2-clause-to c =
    let here = known_at c.args.task.now c.args.stops.now c.args.k c.requires.order.known c.requires.within in
    let place = visit_place _ c.args.task.now c.requires.valid (get_or c.args.stops.now c.args.k (Pick 0)) here in
    subst (λ n. n < point_count c.args.times.now) (sym (c.place.ensures ∙ ap (λ v. place_of v) c.visit_of-2.ensures)) place

-- the last stop, when all before it are passed
ends : (points : ℕ) (tau : ℕ → ℕ → ℕ) (task : Task) (stops : List Stop) (k i place free to : ℕ) (r : Option ℕ) → IsTask points task → k < length stops →
    i ≤ length (take k stops) → length (take k stops) ≤ i
    → SecondScan points tau task stops (drop i stops) k (k - i) place free → to ≡ place_of (visit_at task (get_or stops k (Pick 0)))
    → MatchOption r (tau place to ≡ never) (λ second. (tau place to < never) × (second ≡ free + tau place to) × (second ≤ free + longest))
    → MatchOption r (ReachesAll tau task (take (k + 1) stops) → ⊥) (λ second. ReachesAll tau task (take (k + 1) stops) ×
    (second ≡ slice_index (seconds_of tau task stops) k))
ends points tau task stops k i place free to r valid h most least scan there arrives =
    let e : i ≡ k = omega (arith, length-take k stops) in
    let last : k - i ≡ 0 = omega arith in
    let split : drop i stops ≡ get_or stops k (Pick 0) ∷ drop (k + 1) stops = ap (λ n. drop n stops) e ∙ drop_more stops k (Pick 0) h in
    let here = subst (λ j. SecondScan points tau task stops (get_or stops k (Pick 0) ∷ drop (k + 1) stops) k j place free) last
    (subst (λ rest. SecondScan points tau task stops rest k (k - i) place free) split scan) in
    rw (add-one k) (ends_at points tau task stops k place free to r valid (get_or stops k (Pick 0)) (drop (k + 1) stops) here there arrives)

pub returns : goal.returns
returns c = ends (point_count c.args.times.now) (travel_time c.args.times.now) c.args.task.now c.args.stops.now c.args.k c.loop-stop.stop-index
    c.loop-stop.place c.loop-stop.free c.place.result c.arrival-2.result
    c.requires.valid c.requires.within c.loop-stop.auto.stop-index-end c.loop-stop-test.false c.loop-stop.invariant
    (c.place.ensures ∙ ap (λ v. place_of v) c.visit_of-2.ensures) c.arrival-2.ensures

pub arrival-requires-clause-to : goal.arrival-requires-clause-to
arrival-requires-clause-to c =
    let task = c.args.task.now in
    let stops = c.args.stops.now in
    let within = within_both c.args.k c.loop-stop.stop-index stops c.loop-stop-test.true in
    let there = visited task stops c.args.k c.loop-stop.stop-index _ _ within.0 c.visit_of.ensures c.place-to.ensures in
    subst (λ n. n < point_count c.args.times.now) (sym there) (visit_place _ task c.requires.valid (get_or stops c.loop-stop.stop-index (Pick 0))
    (known_at task stops c.loop-stop.stop-index c.requires.order.known within.1))
