use Rattle.std.proofs.Common.{
  ◌≡◌,
  ℕ,
  ◌+◌,
  ◌-◌,
  ◌*◌,
  ◌<◌,
  ◌≤◌,
  List,
  [],
  ◌∷◌,
  length,
  map,
  Option,
  None,
  Some,
  Result,
  Ok,
  Err,
  refl,
  sym,
  ap,
  ◌∙◌,
  subst,
  arith,
  IfOk,
  IfSome,
  IfNone,
  fold,
  rules,
}
use Rattle.stop_orders.proofs.Common.{
  get_or-map,
  length-map,
  All-map,
  All-weaker,
  IsTravelTime,
  Leg,
  Route,
  Task,
  Stop,
  Alight,
  IsKnown,
  IsOrder,
  place_of,
  latest_of,
  boarding_of,
  lateness,
  Reaches,
  ServesFrom,
  delay_from,
  no_leg,
  IsTask,
  persons,
  leg_at,
  visit_at,
  visits_of,
  free_seats,
  IsOrderOf,
  ReachesAll,
  order_delay,
  Serves,
  IsRoutable,
  IsRoutableLeg,
  without_latest,
  without_limits,
}
use Rattle.pool_base.specs.declared.memory.OutOfMemory.{OutOfMemory}
use Rattle.std.specs.List.{AllByRecursion}
use Rattle.stop_orders.proofs.lemmas.search.ScanLemmas.{order_short}
use Rattle.stop_orders.proofs.search.LabelLemmas.{routable}

leg_unlimited : (legs : List Leg) (j : ℕ) → j < length legs → leg_at (map without_latest legs) j ≡ without_latest (leg_at legs j)
leg_unlimited legs j h = get_or-map without_latest legs j no_leg no_leg h

parties_unlimited : (n : ℕ) (legs : List Leg) → fold (λ m leg. m + leg.party) n (map without_latest legs) ≡ fold (λ m leg. m + leg.party) n legs
parties_unlimited n [] = refl
parties_unlimited n (leg ∷ legs) = parties_unlimited (n + leg.party) legs

persons_unlimited : (legs : List Leg) → persons (map without_latest legs) ≡ persons legs
persons_unlimited legs = parties_unlimited 0 legs

-- the task can be searched without the limits
pub routable_unlimited : (points : ℕ) (task : Task) → IsTask points task → IsRoutable points (without_limits task)
routable_unlimited points task valid =
    let r = routable points task valid in
    record {
      start = r.start;
      ready = r.ready;
      dwell = r.dwell;
      seats = r.seats;
      seated = omega (arith, persons_unlimited task.aboard.items, r.seated);
      passenger_count = omega (arith, length-map task.aboard.items without_latest, r.passenger_count);
      rider_count = r.rider_count;
      passengers = All-map (IsRoutableLeg points) without_latest task.aboard.items
          (All-weaker (IsRoutableLeg points) (λ leg. IsRoutableLeg points (without_latest leg))
          (λ leg h. record { origin = h.origin; destination = h.destination; party = h.party }) task.aboard.items r.passengers);
      riders = r.riders;
    }

module _ (points : ℕ) (tau : ℕ → ℕ → ℕ) (t : IsTravelTime points tau) (task : Task) (valid : IsTask points task) (alone : task.riders.items ≡ []) where
  -- what differs is the latest second alone
  place_same : (s : Stop) → IsKnown (length task.riders.items) (length task.aboard.items) s →
      place_of (visit_at (without_limits task) s) ≡ place_of (visit_at task s)
  place_same (Alight j) h = ap (λ leg. leg.destination) (leg_unlimited task.aboard.items j h)
  place_same _ h = absurd (omega (arith, ap length alone))

  late_same : (s : Stop) → IsKnown (length task.riders.items) (length task.aboard.items) s → (second : ℕ) →
      lateness (visit_at (without_limits task) s) second ≡ lateness (visit_at task s) second
  late_same (Alight j) h second = ap (λ leg. second - leg.ideal) (leg_unlimited task.aboard.items j h)
  late_same _ h second = absurd (omega (arith, ap length alone))

  latest_far : (s : Stop) → IsKnown (length task.riders.items) (length task.aboard.items) s →
      latest_of (visit_at (without_limits task) s) ≡ 18446744073709551615
  latest_far (Alight j) h = ap (λ leg. leg.latest_dropoff) (leg_unlimited task.aboard.items j h)
  latest_far _ h = absurd (omega (arith, ap length alone))

  nobody_boards : (s : Stop) → IsKnown (length task.riders.items) (length task.aboard.items) s → boarding_of (visit_at (without_limits task) s) ≡ 0
  nobody_boards (Alight j) h = refl
  nobody_boards _ h = absurd (omega (arith, ap length alone))

  reaches_unlimited : (stops : List Stop) (place free room : ℕ) → AllByRecursion (IsKnown (length task.riders.items) (length task.aboard.items)) stops →
      ServesFrom tau task.dwell place free room (visits_of (without_limits task) stops)
      → Reaches tau place (visits_of task stops)
  reaches_unlimited [] place free room known serves = tt
  reaches_unlimited (s ∷ stops) place free room known serves = search (rules, place_same, (reaches_unlimited stops))

  serves_unlimited : (stops : List Stop) (place free room : ℕ) → AllByRecursion (IsKnown (length task.riders.items) (length task.aboard.items)) stops →
      free + length stops * 1000000600 ≤ 30000000000 → Reaches tau place (visits_of task stops)
      → ServesFrom tau task.dwell place free room (visits_of (without_limits task) stops)
  serves_unlimited [] place free room known early reach = tt
  serves_unlimited (s ∷ stops) place free room known early reach = search (rules, place_same, latest_far, nobody_boards, (serves_unlimited stops))

  delay_unlimited : (stops : List Stop) (place free : ℕ) → AllByRecursion (IsKnown (length task.riders.items) (length task.aboard.items)) stops →
      delay_from tau task.dwell place free (visits_of (without_limits task) stops) ≡ delay_from tau task.dwell place free (visits_of task stops)
  delay_unlimited [] place free known = refl
  delay_unlimited (s ∷ stops) place free known = search (rules, place_same, late_same, (delay_unlimited stops))

  order_unlimited : (stops : List Stop) → IsOrderOf (without_limits task) stops → IsOrderOf task stops
  order_unlimited stops order = subst (λ n. IsOrder (length task.riders.items) n stops) (length-map task.aboard.items without_latest) order

  limited_order : (stops : List Stop) → IsOrderOf task stops → IsOrderOf (without_limits task) stops
  limited_order stops order = subst (λ n. IsOrder (length task.riders.items) n stops) (sym (length-map task.aboard.items without_latest)) order

  delay_same : (stops : List Stop) → IsOrderOf task stops → order_delay tau (without_limits task) stops ≡ order_delay tau task stops
  delay_same stops order = delay_unlimited stops task.start task.ready order.known

  -- to serve without the limits is to reach all places
  reaches_from_serves : (stops : List Stop) → Serves tau (without_limits task) stops → IsOrderOf task stops × ReachesAll tau task stops
  reaches_from_serves stops serves = search (rules, (order_unlimited stops serves.order), (reaches_unlimited stops))

  serves_from_reaches : (stops : List Stop) → IsOrderOf task stops → ReachesAll tau task stops → Serves tau (without_limits task) stops
  serves_from_reaches stops order reach = record {
    order = limited_order stops order;
    in_time = serves_unlimited stops task.start task.ready (free_seats (without_limits task)) order.known
        (omega (arith, order_short points task stops valid order, valid.ready)) reach;
  }

  -- what is found without the limits serves with them, and is least
  pub unlimited : (r : Result (Option Route) OutOfMemory) → IfOk r (λ found. IfSome found (λ route. Serves tau (without_limits task) route.stops.items))
      → IfOk r (λ found. IfSome found (λ route. route.delay ≡ order_delay tau (without_limits task) route.stops.items))
      → IfOk r (λ found. IfSome found (λ route. (stops : List Stop) → Serves tau (without_limits task) stops →
      route.delay ≤ order_delay tau (without_limits task) stops))
      → IfOk r (λ found. IfNone found ((stops : List Stop) → Serves tau (without_limits task) stops → ⊥))
      → IfOk r (λ found. IfSome found (λ route. IsOrderOf task route.stops.items)) × IfOk r
      (λ found. IfSome found (λ route. ReachesAll tau task route.stops.items))
      × IfOk r (λ found. IfSome found (λ route. route.delay ≡ order_delay tau task route.stops.items))
      × IfOk r (λ found. IfSome found (λ route. (stops : List Stop) → IsOrderOf task stops → ReachesAll tau task stops →
      route.delay ≤ order_delay tau task stops))
      × IfOk r (λ found. IfNone found ((stops : List Stop) → IsOrderOf task stops → ReachesAll tau task stops → ⊥))
  unlimited (Err e) serves delay least none = (tt, tt, tt, tt, tt)
  unlimited (Ok None) serves delay least none = (tt, tt, tt, tt, λ stops order reach. none stops (serves_from_reaches stops order reach))
  unlimited (Ok (Some route)) serves delay least none =
      let own = reaches_from_serves route.stops.items serves in (
        own.0,
        own.1,
        delay ∙ delay_same route.stops.items own.0,
        λ stops order reach. subst (λ d. route.delay ≤ d) (delay_same stops order)
            (least stops (serves_from_reaches stops order reach)),
        tt,
      )
