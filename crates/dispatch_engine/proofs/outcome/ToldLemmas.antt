use Rattle.std.proofs.Common.{◌≡◌, ℕ, ◌+◌, ◌*◌, ◌<◌, ◌≤◌, List, [], ◌∷◌, ◌++◌, length, map, zip, sym, ap, ◌∙◌, subst, arith}
use Rattle.dispatch_engine.proofs.Common.{
  AllByRecursion,
  length_push,
  PlannedStop,
  Settled,
  Stop,
  Task,
  trip_task,
  IsTask,
  IsOrderOf,
  visit_at,
  visits_of,
  seconds_of,
  place_of,
  seconds_from,
  visit_place,
  told_stop,
}
use Rattle.std.proofs.lemmas.List.{append_assoc}
use Rattle.pool_base.specs.TravelTime.{never}
use Rattle.stop_orders.specs.task.Order.{IsKnown}
use Rattle.stop_orders.proofs.lemmas.search.ScanLemmas.{order_short}

-- what was told of an order and what is still to tell are all of it
pub record ToldScan (points : ℕ) (nodes : List ℕ) (tau : ℕ → ℕ → ℕ) (settled : Settled) (v : ℕ) (trip : List ℕ) (task : Task) (room : ℕ)
    (stops rest : List Stop) (place free : ℕ) (told : List PlannedStop) : Type 0 where
  pub known : AllByRecursion (IsKnown (length task.riders.items) (length task.aboard.items)) rest
  pub within : place < points
  pub soon : free + length rest * 4294968000 ≤ 100000000000
  pub fits : length told + length rest ≤ room
  pub all : told ++ map (told_stop nodes settled v trip) (zip rest (seconds_from tau task.dwell place free (visits_of task rest)))
      ≡ map (told_stop nodes settled v trip) (zip stops (seconds_of tau (trip_task settled v trip) stops))

module _ (points : ℕ) (nodes : List ℕ) (tau : ℕ → ℕ → ℕ) (settled : Settled) (v : ℕ) (trip : List ℕ) (task : Task) (room : ℕ) (stops : List Stop)
    (valid : IsTask points task) where
  pub told_first : task ≡ trip_task settled v trip → IsOrderOf task stops → length stops ≤ room →
      ToldScan points nodes tau settled v trip task room stops stops task.start task.ready []
  told_first e order fits =
      let short = order_short points task stops valid order in
      record {
        known = order.known;
        within = valid.start;
        soon = omega (arith, short, valid.ready);
        fits = omega (arith, fits);
        all = ap (λ (t : Task). map (told_stop nodes settled v trip) (zip stops (seconds_of tau t stops))) e;
      }

  pub told_next : (s : Stop) (rest : List Stop) (place free to second : ℕ) (told : List PlannedStop) (one : PlannedStop) →
      ToldScan points nodes tau settled v trip task room stops (s ∷ rest) place free told
      → to ≡ place_of (visit_at task s) → second ≡ free + tau place to → tau place to ≤ never → one ≡ told_stop nodes settled v trip (s, second)
      → ToldScan points nodes tau settled v trip task room stops rest to (second + task.dwell) (told ++ one ∷ [])
  told_next s rest place free to second told one scan e is most told_is =
      let here = place_of (visit_at task s) in
      let arrives : second ≡ free + tau place here = is ∙ ap (λ x. free + tau place x) e in
      let one_is : one ≡ told_stop nodes settled v trip (s, free + tau place here) = told_is ∙ ap (λ x. told_stop nodes settled v trip (s, x)) arrives in
      let after = map (told_stop nodes settled v trip) (zip rest (seconds_from tau task.dwell here (free + tau place here + task.dwell) (visits_of task rest)))
      in
      subst (λ x. ToldScan points nodes tau settled v trip task room stops rest x (second + task.dwell) (told ++ one ∷ [])) (sym e)
      (subst (λ x. ToldScan points nodes tau settled v trip task room stops rest here (x + task.dwell) (told ++ one ∷ [])) (sym arrives) (record {
        known = scan.known.1;
        within = visit_place points task valid s scan.known.0;
        soon = omega (arith, scan.soon, is, arrives, most, valid.dwell);
        fits = omega (arith, scan.fits, length_push told one);
        all = append_assoc told (one ∷ []) after ∙ ap (λ x. told ++ x ∷ after) one_is ∙ scan.all;
      }))
