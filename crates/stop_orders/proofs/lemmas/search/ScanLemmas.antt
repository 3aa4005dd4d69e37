use Rattle.std.proofs.lemmas.Bool.Decides.{nat_tests}
use Rattle.std.proofs.Common.{◌≡◌, ℕ, zero, suc, ◌+◌, ◌*◌, ◌<◌, ◌≤◌, List, ◌∷◌, length, take, slice_index, refl, sym, subst, arith, rules, [], ap}
use Rattle.stop_orders.proofs.Common.{
  AllByRecursion,
  never,
  longest,
  Task,
  Stop,
  IsKnown,
  place_of,
  Reaches,
  delay_from,
  seconds_from,
  IsTask,
  IsOrderOf,
  Serves,
  visit_at,
  visits_of,
  ReachesAll,
  order_delay,
  seconds_of,
  first_position,
  position_after,
  CanVisitFrom,
  ServesAt,
  lateness,
}
use Rattle.stop_orders.specs.declared.search.position.Position.{Position}
use Rattle.stop_orders.proofs.lemmas.task.DoneLemmas.{length-IsOrder}

-- an order of a valid task has at most 22 stops
pub order_short : (points : ℕ) (task : Task) (stops : List Stop) → IsTask points task → IsOrderOf task stops → length stops ≤ 22
order_short points task stops valid order =
    grind (arith, nat_tests, (length-IsOrder (length task.riders.items) (length task.aboard.items) stops valid.rider_count order))

-- all stops serve exactly where the rest serves from here
pub record ServingScan (points : ℕ) (tau : ℕ → ℕ → ℕ) (task : Task) (stops rest : List Stop) (p : Position) : Type 0 where
  pub order : IsOrderOf task stops
  pub known : AllByRecursion (IsKnown (length task.riders.items) (length task.aboard.items)) rest
  pub place : p.place < points
  pub free : p.free ≤ 4000000600
  pub room : p.room + length rest * 6 ≤ 150
  pub to : Serves tau task stops → ServesAt tau task.dwell p (visits_of task rest)
  pub from : ServesAt tau task.dwell p (visits_of task rest) → Serves tau task stops

module _ (points : ℕ) (tau : ℕ → ℕ → ℕ) (task : Task) (stops : List Stop) (valid : IsTask points task) where
  pub serving_first : IsOrderOf task stops → (p : Position) → p ≡ first_position task → ServingScan points tau task stops stops p
  serving_first order p e =
      let short = order_short points task stops valid order in
      subst (λ q. ServingScan points tau task stops stops q) (sym e) (record {
        order = order;
        known = order.known;
        place = valid.start;
        free = omega (arith, valid.ready);
        room = omega (arith, short, valid.seats);
        to = λ s. s.in_time;
        from = λ s. record { order = order; in_time = s };
      })

  pub serving_next : (s : Stop) (rest : List Stop) (p q : Position) → ServingScan points tau task stops (s ∷ rest) p → CanVisitFrom tau p (visit_at task s) →
      q ≡ position_after tau task.dwell p (visit_at task s)
      → ServingScan points tau task stops rest q
  serving_next s rest p q scan can e = search rules

  pub serving_stuck : (s : Stop) (rest : List Stop) (p : Position) → ServingScan points tau task stops (s ∷ rest) p →
      (CanVisitFrom tau p (visit_at task s) → ⊥) → Serves tau task stops → ⊥
  serving_stuck s rest p scan never serves = let way = scan.to serves in never (way.0, way.1, way.2)

  pub serving_last : (rest : List Stop) (p : Position) → rest ≡ [] → ServingScan points tau task stops rest p → Serves tau task stops
  serving_last rest p e scan = (subst (λ r. ServingScan points tau task stops r p) e scan).from tt

-- the delay so far and that of the rest are the delay of all
pub record DelayScan (points : ℕ) (tau : ℕ → ℕ → ℕ) (task : Task) (stops rest : List Stop) (place free delay : ℕ) : Type 0 where
  pub known : AllByRecursion (IsKnown (length task.riders.items) (length task.aboard.items)) rest
  pub within : place < points
  pub soon : free + length rest * 1000000600 ≤ 30000000000
  pub small : delay + length rest * 100000000000 ≤ 3000000000000
  pub to : ReachesAll tau task stops → Reaches tau place (visits_of task rest)
  pub from : Reaches tau place (visits_of task rest) → ReachesAll tau task stops
  pub sum : order_delay tau task stops ≡ delay + delay_from tau task.dwell place free (visits_of task rest)

module _ (points : ℕ) (tau : ℕ → ℕ → ℕ) (task : Task) (stops : List Stop) (valid : IsTask points task) where
  pub delay_first : IsOrderOf task stops → DelayScan points tau task stops stops task.start task.ready 0
  delay_first order =
      let short = order_short points task stops valid order in
      record {
        known = order.known;
        within = valid.start;
        soon = omega (arith, short, valid.ready);
        small = omega (arith, short);
        to = λ r. r;
        from = λ r. r;
        sum = omega arith;
      }

  pub delay_next : (s : Stop) (rest : List Stop) (place free delay to second late : ℕ) → DelayScan points tau task stops (s ∷ rest) place free delay →
      to ≡ place_of (visit_at task s) → to < points
      → tau place to < never → second ≡ free + tau place to → second ≤ free + longest → late ≡ lateness (visit_at task s) second → late ≤ second →
      DelayScan points tau task stops rest to (second + task.dwell) (delay + late)
  delay_next s rest place free delay to second late scan e inside reach is short at most = search rules

  pub delay_stuck : (s : Stop) (rest : List Stop) (place free delay to : ℕ) → DelayScan points tau task stops (s ∷ rest) place free delay →
      to ≡ place_of (visit_at task s) → tau place to ≡ never → ReachesAll tau task stops → ⊥
  delay_stuck s rest place free delay to scan e none all = omega (arith, ap (λ n. tau place n) e, none, (scan.to all).0)

  pub delay_last : (rest : List Stop) (place free delay : ℕ) → rest ≡ [] → DelayScan points tau task stops rest place free delay →
      ReachesAll tau task stops × (delay ≡ order_delay tau task stops)
  delay_last rest place free delay e scan = let end = subst (λ r. DelayScan points tau task stops r place free delay) e
      scan in (end.from tt, omega (arith, end.sum))

-- of the stops from here on, the one at j is the one at k of all
pub record SecondScan (points : ℕ) (tau : ℕ → ℕ → ℕ) (task : Task) (stops rest : List Stop) (k j place free : ℕ) : Type 0 where
  pub known : AllByRecursion (IsKnown (length task.riders.items) (length task.aboard.items)) rest
  pub within : place < points
  pub soon : free + length rest * 1000000600 ≤ 30000000000
  pub to : ReachesAll tau task (take (suc k) stops) → Reaches tau place (visits_of task (take (suc j) rest))
  pub from : Reaches tau place (visits_of task (take (suc j) rest)) → ReachesAll tau task (take (suc k) stops)
  pub second : slice_index (seconds_of tau task stops) k ≡ slice_index (seconds_from tau task.dwell place free (visits_of task rest)) j

module _ (points : ℕ) (tau : ℕ → ℕ → ℕ) (task : Task) (stops : List Stop) (k : ℕ) (valid : IsTask points task) where
  pub second_first : IsOrderOf task stops → SecondScan points tau task stops stops k k task.start task.ready
  second_first order =
      let short = order_short points task stops valid order in
      record {
        known = order.known;
        within = valid.start;
        soon = omega (arith, short, valid.ready);
        to = λ r. r;
        from = λ r. r;
        second = refl;
      }

  pub second_next : (s : Stop) (rest : List Stop) (j place free to second : ℕ) → SecondScan points tau task stops (s ∷ rest) k (suc j) place free
      → to ≡ place_of (visit_at task s) → tau place to < never → second ≡ free + tau place to → second ≤ free + longest
      → SecondScan points tau task stops rest k j to (second + task.dwell)
  second_next s rest j place free to second scan e reach is short = search rules

  pub second_stuck : (s : Stop) (rest : List Stop) (j place free to : ℕ) → SecondScan points tau task stops (s ∷ rest) k j place free
      → to ≡ place_of (visit_at task s) → tau place to ≡ never → ReachesAll tau task (take (suc k) stops) → ⊥
  second_stuck s rest j place free to scan e none all = search rules

  pub second_last : (s : Stop) (rest : List Stop) (place free to second : ℕ) → SecondScan points tau task stops (s ∷ rest) k zero place free
      → to ≡ place_of (visit_at task s) → tau place to < never → second ≡ free + tau place to
      → ReachesAll tau task (take (suc k) stops) × (second ≡ slice_index (seconds_of tau task stops) k)
  second_last s rest place free to second scan e reach is = search rules
