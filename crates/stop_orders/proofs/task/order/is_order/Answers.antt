use Rattle.std.proofs.Common.{◌≡◌, ◌∷◌, Bool, IsTrue, ◌↔◌, ℕ, ◌+◌, ◌<◌, ◌≤◌, List, length, get_or, drop, subst, sym, ◌∙◌, arith}
use Rattle.stop_orders.proofs.Common.{drop_more, Stop, Pick, IsOrder, IsNextStop, with_stop, Completes}
use Rattle.stop_orders.proofs.lemmas.task.DoneLemmas.{Completes-none, IsOrder-from_none, Completes-front, Completes-back}
use Rattle.stop_orders.proofs.task.order.is_order.Invariants.{Scans}
use Rattle.stop_orders.proofs.task.order.is_order.Goals as goal

scan_none : (riders passengers done : ℕ) (stops : List Stop) → riders ≤ 6 → passengers ≤ 10 → done ≡ 0 → Scans riders passengers done stops stops
scan_none riders passengers done stops few seated e = record {
  few = few;
  seated = seated;
  to = λ o. subst (λ d. Completes riders passengers d stops) (sym e) (Completes-none riders passengers stops o);
  from = λ c. IsOrder-from_none riders passengers stops (subst (λ d. Completes riders passengers d stops) e c);
}

scan_more : (riders passengers done after i : ℕ) (stops : List Stop) → i < length stops → IsNextStop riders passengers done (get_or stops i (Pick 0)) →
    after ≡ with_stop done (get_or stops i (Pick 0))
    → Scans riders passengers done stops (drop i stops) → Scans riders passengers after stops (drop (i + 1) stops)
scan_more riders passengers done after i stops h next e s =
    let split : drop i stops ≡ get_or stops i (Pick 0) ∷ drop (i + 1) stops = drop_more stops i (Pick 0) h in
    record {
      few = s.few;
      seated = s.seated;
      to = λ o.
          let here = subst (λ xs. Completes riders passengers done xs) split (s.to o) in
          subst (λ d. Completes riders passengers d (drop (i + 1) stops)) (sym e) (Completes-front riders passengers done s.few (get_or stops i (Pick 0))
          (drop (i + 1) stops) here).1;
      from = λ c.
          let there = subst (λ d. Completes riders passengers d (drop (i + 1) stops)) e c in
          s.from (subst (λ xs. Completes riders passengers done xs) (sym split) (Completes-back riders passengers done s.few (get_or stops i (Pick 0))
          (drop (i + 1) stops) next there));
    }

scan_next : (riders passengers done i : ℕ) (stops : List Stop) → i < length stops → Scans riders passengers done stops (drop i stops) →
    IsOrder riders passengers stops → IsNextStop riders passengers done (get_or stops i (Pick 0))
scan_next riders passengers done i stops h s o =
    let split : drop i stops ≡ get_or stops i (Pick 0) ∷ drop (i + 1) stops = drop_more stops i (Pick 0) h in
    (Completes-front riders passengers done s.few (get_or stops i (Pick 0)) (drop (i + 1) stops)
    (subst (λ xs. Completes riders passengers done xs) split (s.to o))).0

-- what the test says of the stop, at the true numbers
next_from : (b : Bool) (riders passengers done n m : ℕ) (stop : Stop) → n ≡ riders → m ≡ passengers → (IsTrue b ↔ IsNextStop n m done stop) →
    (IsTrue b ↔ IsNextStop riders passengers done stop)
next_from b riders passengers done n m stop e f h = subst (λ k. IsTrue b ↔ IsNextStop riders k done stop) f
    (subst (λ k. IsTrue b ↔ IsNextStop k m done stop) e h)

pub loop-stop-init : goal.loop-stop-init
loop-stop-init c = scan_none _ _ _ _ (omega arith) (omega arith) c.none-done.ensures

pub returns-then-not-is_next : goal.returns-then-not-is_next
returns-then-not-is_next c = (
  λ f. absurd cc,
  λ o.
      let says = next_from _ _ _ _ _ _ _ c.len-riders.ensures.value c.len-passengers.ensures.value c.is_next.ensures in
      let next = scan_next (length c.args.task.now.riders.items) (length c.args.task.now.aboard.items) c.loop-stop.done c.loop-stop.stop-index c.args.stops.now
      c.loop-stop-test.true c.loop-stop.invariant o in
      sym c.if-not-is_next.true ∙ says.1 next,
)

pub loop-stop-preserved : goal.loop-stop-preserved
loop-stop-preserved c =
    let says = next_from _ _ _ _ _ _ _ c.len-riders.ensures.value c.len-passengers.ensures.value c.is_next.ensures in
    scan_more _ _ c.loop-stop.done _ c.loop-stop.stop-index c.args.stops.now c.loop-stop-test.true (says.0 c.if-not-is_next.false) c.with-done.ensures
    c.loop-stop.invariant
