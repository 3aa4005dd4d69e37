-- The rows of a settled batch, and those that its vehicles hold, make a graph without a fault.
use Rattle.std.proofs.lemmas.Bool.Decides.{nat_tests}
use Rattle.std.proofs.Common.{
  ◌≡◌,
  ◌==◌,
  ℕ,
  suc,
  ◌<◌,
  ◌≤◌,
  inl,
  inr,
  Bool,
  true,
  false,
  Option,
  None,
  Some,
  List,
  [],
  ◌∷◌,
  length,
  get_or,
  refl,
  sym,
  ◌∙◌,
  subst,
  arith,
  MatchBool,
  rules,
}
use Rattle.trip_graph.proofs.Common.{
  list_any,
  cases_lt,
  IsTravelTime,
  Settled,
  IsServable,
  IsTrip,
  trip_task,
  vehicle_at,
  IsSound,
  SubTripsAreServable,
  DelaysAreSmall,
  TripRow,
  Graph,
  no_row,
  choice_at,
  riders_at,
  has_rider,
  times_served,
  HoldsRightly,
  IsRowWith,
  HoldRows,
  AreRowsUpTo,
}
use Rattle.std.specs.List.{Contains}
use Rattle.std.proofs.lemmas.Bool.{eqb-true}
use Rattle.std.proofs.lemmas.Map.Views.{Contains-from_any}
use Rattle.std.proofs.lemmas.Option.{none-some}
use Rattle.plan_rules.specs.declared.fault.GraphFault.{GraphFault}
use Rattle.plan_rules.specs.declared.fault.GraphFault.TheVariants.{Range, Order, Held, OutOfMemory}
use Rattle.plan_rules.specs.GraphFault.{HasGoodRows, HasRowsInOrder, IsGraphFault}
use Rattle.plan_rules.specs.lemmas.GraphFault.{HasHeldRows}
use Rattle.plan_rules.proofs.lemmas.GraphLemmas.{tail_rises, times_served_found, in_choice}
use Rattle.plan_rules.proofs.lemmas.HeldLemmas.{holds_at}
use Rattle.trip_graph.proofs.batch.RowOrder.{AreInOrder}

contains_of : (xs : List ℕ) (r : ℕ) → list_any (λ x. x == r) xs ≡ true → Contains xs r
contains_of xs r e = Contains-from_any {eq = λ q x. x == q} (λ x y h. sym (eqb-true y x h)) r xs e

-- the riders of the row that an earlier vehicle holds
held_riders : (rows : List TripRow) (held : List (Option ℕ)) (w k : ℕ) (riders : List ℕ) (late : Bool)
    → MatchBool late (choice_at held w ≡ None) ((j : ℕ) × (choice_at held w ≡ Some j) × IsRowWith rows w riders j)
    → choice_at held w ≡ Some k → (get_or rows k no_row).riders.items ≡ riders
held_riders rows held w k riders true none e = absurd (none-some k (sym none ∙ e))
held_riders rows held w k riders false found e = search rules

-- what may be wrong where rows are good, in order, and held rightly
only_memory : (g : Graph) (fault : GraphFault) → HasGoodRows g → HasRowsInOrder g → HasHeldRows g → IsGraphFault g fault → fault ≡ OutOfMemory
only_memory g (Range row) rows order held h = absurd (h.wrong (rows row h.within))
only_memory g (Order row) rows order held h = absurd (h.first.wrong (order h.first.previous (let n = h.first.next in let w = h.first.within in omega arith)))
only_memory g (Held vehicle) rows order held (inl h) = absurd (h.wrong (held.holds vehicle (let w = h.within in omega arith)))
only_memory g (Held vehicle) rows order held (inr h) = absurd (h.differs held.sized)
only_memory g OutOfMemory rows order held h = refl

module _ (most points : ℕ) (tau : ℕ → ℕ → ℕ) (settled : Settled) (subs : SubTripsAreServable) (delays : DelaysAreSmall) (few : most ≤ 6)
    (travel : IsTravelTime points tau) (sound : IsSound most points tau settled) where
  -- where a vehicle serves a trip, it serves its passengers alone
  alone_served : (v : ℕ) (trip : List ℕ) → v < length settled.vehicles → IsTrip (length settled.riders) trip → length trip ≤ 6
      → IsServable tau (trip_task settled v trip) → IsServable tau (trip_task settled v [])
  alone_served v [] less riders short served = served
  alone_served v (r ∷ rs) less riders short served =
      alone_served v rs less (record { rising = tail_rises r rs riders.rising; within = λ k d lt. riders.within (suc k) d (omega arith) }) (omega arith)
      (subs most points tau settled v (r ∷ rs) 0 travel sound less riders short (omega arith) served)

  module _ (g : Graph) (vehicles : g.vehicles ≡ length settled.vehicles) (riders : g.riders ≡ length settled.riders)
      (exact : AreRowsUpTo most tau settled (length settled.vehicles) g.rows) (hold : HoldRows settled (length settled.vehicles) g.rows g.held) where
    good_rows : HasGoodRows g
    good_rows k lt =
        let row = exact.right k lt in
        let size = row.served.size in
        let small = delays most points tau settled (get_or g.rows k no_row).vehicle (get_or g.rows k no_row).riders.items row.least.stops sound
        row.served.vehicle row.served.riders (omega arith) row.least.serves in
        let cost = row.least.has_delay in
        record {
          vehicle = (let b = row.served.vehicle in omega arith);
          below = λ i l. (let b = row.served.riders.within i 0 l in omega arith);
          rising = row.served.riders.rising;
          few = omega arith;
          cheap = omega arith;
        }

    rows_in_order : AreInOrder g.rows → HasRowsInOrder g
    rows_in_order order k lt = order k (suc k) (omega arith) lt

    -- no earlier vehicle holds a rider of the row
    none_earlier : (v k : ℕ) → v < length settled.vehicles → IsRowWith g.rows v (vehicle_at settled v).held.items k → (r : ℕ) → has_rider g k r ≡ true →
        times_served g g.held v r ≡ 0
    none_earlier v k less at r here =
        elim (cases_lt 0 (times_served g g.held v r)) as (λ _. times_served g g.held v r ≡ 0) [
          | inl some ↦
              let other = times_served_found g g.held v r (omega arith) in
              let w = other.0 in
              let earlier : w < v = other.1 in
              let chosen = in_choice g (choice_at g.held w) r other.2 in
              let theirs : (get_or g.rows chosen.0 no_row).riders.items ≡ (vehicle_at settled w).held.items =
              held_riders g.rows g.held w chosen.0 (vehicle_at settled w).held.items (vehicle_at settled w).late (hold.each w (omega arith)) chosen.1 in
              let a = subst (λ (xs : List ℕ). Contains xs r) at.trip (contains_of (riders_at g k) r here) in
              let b = subst (λ (xs : List ℕ). Contains xs r) theirs (contains_of (riders_at g chosen.0) r chosen.2) in
              let same = sound.apart v w r less (omega arith) a b in
              absurd (omega arith)
          | inr none ↦ omega arith
        ]

    holds_by : (v : ℕ) → v < length settled.vehicles → (late : Bool) → MatchBool late (IsServable tau (trip_task settled v []) → ⊥)
        (IsServable tau (trip_task settled v []))
        → MatchBool late (choice_at g.held v ≡ None) ((k : ℕ) × (choice_at g.held v ≡ Some k) × IsRowWith g.rows v (vehicle_at settled v).held.items k) →
        HoldsRightly g v
    holds_by v less true unserved none = grind (arith, nat_tests, (alone_served v))
    holds_by v less false served found = search (rules, holds_at, none_earlier)

    held_rows : HasHeldRows g
    held_rows = search (rules, holds_by)

    -- want of memory alone keeps such a graph from being made
    pub memory_only : AreInOrder g.rows → (fault : GraphFault) → IsGraphFault g fault → fault ≡ OutOfMemory
    memory_only order fault h = only_memory g fault good_rows (rows_in_order order) held_rows h
