use Rattle.std.proofs.Common.{◌≡◌, ℕ, ◌+◌, ◌<◌, ◌≤◌, List, [], ◌∷◌, ◌++◌, length, ap, arith, rules, ◌-◌, Option, Some, None, MatchOption, subst, refl}
use Rattle.stop_orders.proofs.Common.{
  IsTravelTime,
  Task,
  Stop,
  Pick,
  Drop,
  Alight,
  IsKnown,
  place_of,
  no_leg,
  IsTask,
  visit_at,
  free_seats,
  IsNextStop,
  left_count,
  Label,
  IsRoutable,
  task_riders,
  task_passengers,
  first_label,
  second_at,
  CanVisit,
  next_label,
  IsSmallLabel,
  LeadsTo,
  person_of,
  never,
  leg_at,
  latest_of,
  boarding_of,
  with_stop,
  label_at,
  Leg,
}
use Rattle.stop_orders.proofs.lemmas.task.DoneLemmas.{left_count-most}
use Rattle.stop_orders.proofs.lemmas.search.PlainLemmas.{MakesOrders-next, MakesOrders-none, append_one}

-- a valid task can be searched
pub routable : (points : ℕ) (task : Task) → IsTask points task → IsRoutable points task
routable points task valid = search rules

-- who may come next is known
pub known_next : (riders passengers done : ℕ) (s : Stop) → IsNextStop riders passengers done s → IsKnown riders passengers s
known_next riders passengers done (Pick i) next = next.0
known_next riders passengers done _ next = next.0

-- .. and is one of the persons
pub person_next : (riders passengers done : ℕ) (s : Stop) → IsNextStop riders passengers done s → person_of riders s < riders + passengers
person_next riders passengers done (Pick i) next = omega (arith, next.0)
person_next riders passengers done (Drop i) next = omega (arith, next.0)
person_next riders passengers done (Alight j) next = omega (arith, next.0)

module _ (points : ℕ) (tau : ℕ → ℕ → ℕ) (t : IsTravelTime points tau) (task : Task) (valid : IsRoutable points task) where
  place_in : (s : Stop) → IsKnown (task_riders task) (task_passengers task) s → place_of (visit_at task s) < points
  place_in (Pick i) h = (valid.riders i no_leg h).origin
  place_in (Drop i) h = (valid.riders i no_leg h).destination
  place_in (Alight j) h = (valid.passengers j no_leg h).destination

  -- a stop is reached at a small second
  pub second_most : (label : Label) (s : Stop) (second : ℕ) → label.free ≤ 30000000000 → CanVisit tau task label s → second ≡ second_at tau task label s →
      second ≤ 40000000000
  second_most label s second small can is = omega (arith, is, t.range label.place (place_of (visit_at task s)) can.0, small)

  -- the numbers stay small
  pub small_next : (label : Label) (s : Stop) (left less : ℕ) → IsSmallLabel points left label → less + 1 ≤ left →
      IsNextStop (task_riders task) (task_passengers task) label.done s → CanVisit tau task label s
      → IsSmallLabel points less (next_label tau task label s)
  small_next label s left less small fall next can = search rules

  -- one more stop leads to the next label
  pub leads_next : (label : Label) (path : List Stop) (s : Stop) → LeadsTo tau task path label →
      IsNextStop (task_riders task) (task_passengers task) label.done s → CanVisit tau task label s
      → LeadsTo tau task (path ++ s ∷ []) (next_label tau task label s)
  leads_next label path s leads next can = search (rules, MakesOrders-next, append_one)

  -- the first label
  pub small_first : (done room : ℕ) → done ≡ 0 → room ≡ free_seats task → IsSmallLabel points (left_count (task_riders task) (task_passengers task) done)
      (record { done = done; place = task.start; free = task.ready; room = room; delay = 0 })
  small_first done room e f = search (rules, left_count-most)

  pub left_first : (done : ℕ) (path : List Stop) → path ≡ [] → length path + left_count (task_riders task) (task_passengers task) done ≤ 22
  left_first done path e = omega (arith, left_count-most (task_riders task) (task_passengers task) done, ap length e, valid.rider_count, valid.passenger_count)

  leads_from_none : LeadsTo tau task [] (first_label task)
  leads_from_none = search (rules, MakesOrders-none)

  pub leads_first : (done room : ℕ) (path : List Stop) → done ≡ 0 → room ≡ free_seats task → path ≡ [] →
      LeadsTo tau task path (record { done = done; place = task.start; free = task.ready; room = room; delay = 0 })
  leads_first done room path e f p = search (rules, leads_from_none)

-- the label and a stop of a leg
module _ (tau : ℕ → ℕ → ℕ) (task : Task) (label : Label) (stop : Stop) where
  pub visits : (r : Option ℕ) (place latest : ℕ) → place ≡ place_of (visit_at task stop) → latest ≡ latest_of (visit_at task stop) →
      boarding_of (visit_at task stop) ≤ label.room
      → MatchOption r ((tau label.place place < never) × (label.free + tau label.place place ≤ latest) → ⊥)
      (λ second. (tau label.place place < never) × (label.free + tau label.place place ≤ latest) × (second ≡ label.free + tau label.place place))
      → MatchOption r (CanVisit tau task label stop → ⊥) (λ second. CanVisit tau task label stop × (second ≡ second_at tau task label stop))
  visits None place latest e f seats never = λ can. never (rw (e, f) (can.0, can.1))
  visits (Some second) place latest e f seats is =
      let at = subst (λ p. (tau label.place p < never) × (label.free + tau label.place p ≤ latest) × (second ≡ label.free + tau label.place p)) e is in
      ((at.0, subst (λ n. second_at tau task label stop ≤ n) f at.1, seats), at.2)

  pub no_seats : (i : ℕ) (leg : Leg) (party : ℕ) → stop ≡ Pick i → leg ≡ leg_at task.riders.items i → party ≡ leg.party → label.room < party →
      CanVisit tau task label stop → ⊥
  no_seats i leg party is e p full can = omega (arith, (subst (λ s. CanVisit tau task label s) is can).2, p, ap (λ l. l.party) e, full)

pub label_picked : (task : Task) (label : Label) (stop : Stop) (i second done party : ℕ) (leg : Leg) → stop ≡ Pick i → leg ≡ leg_at task.riders.items i →
    done ≡ with_stop label.done (Pick i) → party ≡ leg.party
    → record { done = done; room = label.room - party; place = leg.origin; free = second + task.dwell; delay = label.delay } ≡ label_at task label stop second
label_picked task label stop i second done party leg is e d p =
    let same : label.delay + 0 ≡ label.delay = omega arith in
    rw (is, d, p, e, same) refl
