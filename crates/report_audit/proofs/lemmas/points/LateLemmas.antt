-- Late vehicles, and orders of their passengers.
use Rattle.std.proofs.Common.{IsTrue, ◌↔◌, ◌≡◌, ℕ, true, false, not, eqb, ⊎_elim, List, [], refl, sym, ap, ◌∙◌, subst, arith, rules}
use Rattle.report_audit.proofs.Common.{PlannedStop, Settled, Stop, Task, trip_task, IsOrderOf, ReachesAll, order_delay, told_stops, IsLateOrder, IsLeast}
use Rattle.std.proofs.lemmas.Bool.Decides.{eqb_tells}

-- no is said of what isn't so
pub rightly_no : {A : Type 0} → (A → ⊥) → IsTrue false ↔ A
rightly_no none = (λ no. absurd (let f : false ≡ true = no in cc), λ is. absurd (none is))

-- ids that don't differ are the same
pub same_id : (a b : ℕ) → false ≡ not (eqb a b) → a ≡ b
same_id a b e = ⊎_elim (λ yes. yes.1) (λ no. absurd (let f : false ≡ true = e ∙ ap not no.0 in cc)) (eqb_tells a b)

module _ (points : List ℕ) (tau : ℕ → ℕ → ℕ) (settled : Settled) (v : ℕ) (task : Task) (same : task ≡ trip_task settled v []) where
  pub late_order_of : (delay : ℕ) (lines : List PlannedStop) (late : IsLateOrder points tau settled v delay lines) → IsOrderOf task late.stops
  late_order_of delay lines late = subst (λ (t : Task). IsOrderOf t late.stops) (sym same) late.order

  pub late_reaches : (delay : ℕ) (lines : List PlannedStop) (late : IsLateOrder points tau settled v delay lines) → (order : List Stop) → order ≡ late.stops →
      ReachesAll tau task order
  late_reaches delay lines late order e = search rules

  pub late_delay : (delay : ℕ) (lines : List PlannedStop) (late : IsLateOrder points tau settled v delay lines) → (order : List Stop) → order ≡ late.stops →
      order_delay tau task order ≡ delay
  late_delay delay lines late order e = search rules

  pub late_from : (delay : ℕ) (lines : List PlannedStop) (order : List Stop) → IsOrderOf task order → ReachesAll tau task order →
      order_delay tau task order ≡ delay → IsLeast tau task delay
      → lines ≡ told_stops points tau settled v [] order → IsLateOrder points tau settled v delay lines
  late_from delay lines order is reaches has least told = record {
    stops = order;
    order = subst (λ (t : Task). IsOrderOf t order) same is;
    reaches = subst (λ (t : Task). ReachesAll tau t order) same reaches;
    has_delay = sym (ap (λ (t : Task). order_delay tau t order) same) ∙ has;
    least = subst (λ (t : Task). IsLeast tau t delay) same least;
    told = told;
  }

  -- orders of least delay have one delay
  pub one_late_delay : (delay : ℕ) (lines : List PlannedStop) → IsLateOrder points tau settled v delay lines → (least : ℕ) (order : List Stop) →
      IsOrderOf task order → ReachesAll tau task order
      → least ≡ order_delay tau task order → IsLeast tau task least → delay ≡ least
  one_late_delay delay lines late least order is reaches has none_less =
      let low = late.least order (subst (λ (t : Task). IsOrderOf t order) same is) (subst (λ (t : Task). ReachesAll tau t order) same reaches) in
      let here : order_delay tau (trip_task settled v []) order ≡ least = sym (ap (λ (t : Task). order_delay tau t order) same) ∙ sym has in
      let high = none_less late.stops (late_order_of delay lines late) (late_reaches delay lines late late.stops refl) in
      let there : order_delay tau task late.stops ≡ delay = late_delay delay lines late late.stops refl in
      omega (arith, low, here, high, there)
