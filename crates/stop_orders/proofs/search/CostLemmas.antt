use Rattle.std.proofs.Common.{◌≡◌, ℕ, ◌+◌, ◌<◌, ◌≤◌, List, [], ◌∷◌, ◌++◌, Option, None, Some, refl, sym, ap, ◌∙◌, subst, inl, inr, arith, All, IfSome, IfNone}
use Rattle.stop_orders.proofs.Common.{
  cases_lt,
  IsTravelTime,
  Route,
  Task,
  Stop,
  ServesFrom,
  visits_of,
  free_seats,
  order_delay,
  IsServable,
  IsLeastDelay,
  IsNextStop,
  IsAllDone,
  with_stop,
  left_count,
  NoneBetter,
  StaysGood,
  Label,
  IsRoutable,
  task_riders,
  task_passengers,
  first_label,
  CanVisit,
  second_at,
  label_at,
  next_label,
  rest_delay,
  IsSmallLabel,
  RiderCan,
  PassengerCan,
  LeadsTo,
  IsExhausted,
  IsTried,
  IsLabelDone,
  route_of,
  IsCostFound,
  IsOnlyStop,
  person_of,
  IsPersonTried,
  IsNextOf,
  Priced,
}
use Rattle.stop_orders.proofs.lemmas.task.DoneLemmas.{IsAllDone-from_nil, left_count-falls}
use Rattle.stop_orders.proofs.lemmas.search.PlainLemmas.{MakesOrders-all}
use Rattle.std.proofs.lemmas.List.{append-nil}
use Rattle.stop_orders.proofs.search.AheadLemmas.{goes_on_next}
use Rattle.stop_orders.proofs.search.LabelLemmas.{person_next, leads_first, leads_next, small_next}
use Rattle.stop_orders.proofs.search.SearchLemmas.{good_better, settled_good, exhausted_all, exhausted_none, tried_exhausted, least_none}

-- what holds in the loop over the persons
pub record PricesAll (points : ℕ) (tau : ℕ → ℕ → ℕ) (task : Task) (label : Label) (person : ℕ) (first best : Option ℕ) (labels : List Label) : Type 0 where
  pub found : (path : List Stop) → LeadsTo tau task path label → IsCostFound tau task first → IsCostFound tau task best
  pub good : StaysGood (route_of first) (route_of best)
  pub tried : (k : ℕ) → k < person → IsPersonTried tau task (route_of best) label k
  pub settled : All (IsLabelDone points tau task (route_of best)) labels

module _ (points : ℕ) (tau : ℕ → ℕ → ℕ) (t : IsTravelTime points tau) (task : Task) (valid : IsRoutable points task) where
  -- the person's only stop was tried
  pub tried_only : (label : Label) (person : ℕ) (best : Option Route) (stop : Stop) → IsOnlyStop (task_riders task) (task_passengers task) label.done person
      stop → IsTried tau task best label stop → IsPersonTried tau task best label person
  tried_only label person best stop only tried = λ s next e. subst (λ x. IsTried tau task best label x) (sym (only.only s next e)) tried

  -- .. where no way on from the label behind it is better
  pub tried_next : (label next : Label) (person second : ℕ) (best : Option Route) (stop : Stop) →
      IsOnlyStop (task_riders task) (task_passengers task) label.done person stop → second ≡ second_at tau task label stop
      → next ≡ label_at task label stop second → IsExhausted tau task best next → IsPersonTried tau task best label person
  tried_next label next person second best stop only at is exhausted = tried_only label person best stop only
      (tried_exhausted points tau t task valid label next stop best (is ∙ ap (λ n. label_at task label stop n) at) exhausted)

  -- the next label is small too, with fewer stops left
  pub next_small : (label next : Label) (s : Stop) → IsSmallLabel points (left_count (task_riders task) (task_passengers task) label.done) label →
      IsNextStop (task_riders task) (task_passengers task) label.done s → CanVisit tau task label s
      → next ≡ next_label tau task label s
      → IsSmallLabel points (left_count (task_riders task) (task_passengers task) next.done) next ×
      (left_count (task_riders task) (task_passengers task) next.done + 1 ≤ left_count (task_riders task) (task_passengers task) label.done)
  next_small label next s small is can e =
      let left = left_count (task_riders task) (task_passengers task) label.done in
      let fall = left_count-falls (task_riders task) (task_passengers task) label.done valid.rider_count s is in
      subst (λ l. IsSmallLabel points (left_count (task_riders task) (task_passengers task) l.done) l ×
      (left_count (task_riders task) (task_passengers task) l.done + 1 ≤ left)) (sym e)
      (small_next points tau t task valid label s left (left_count (task_riders task) (task_passengers task) (with_stop label.done s)) small fall is can, fall)

  -- somebody more was tried, so no way on by her stop is better
  pub prices_more : (label : Label) (person : ℕ) (first best : Option ℕ) (labels : List Label) → IsPersonTried tau task (route_of best) label person →
      PricesAll points tau task label person first best labels
      → PricesAll points tau task label (person + 1) first best labels
  prices_more label person first best labels here so_far = record {
    found = so_far.found;
    good = so_far.good;
    tried = λ k h. elim (cases_lt k person) [
      | inl less ↦ so_far.tried k less
      | inr more ↦ subst (λ n. IsPersonTried tau task (route_of best) label n)
          (omega (arith, h, more)) here
    ];
    settled = so_far.settled;
  }

  -- .. after a search from the label behind her stop
  pub prices_searched : (label next : Label) (person : ℕ) (first old new : Option ℕ) (labels more : List Label) → IsNextOf tau task label person next →
      Priced points tau task next old new more
      → PricesAll points tau task label person first old labels → PricesAll points tau task label (person + 1) first new more
  prices_searched label next person first old new labels more is priced so_far =
      let tried = tried_only label person (route_of new) is.stop is.only (tried_exhausted points tau t task valid label next is.stop (route_of new) is.is
      priced.exhausted) in
      prices_more label person first new more tried (record {
        found = λ path leads was.
            let on = leads_next points tau t task valid label path is.stop leads is.only.next is.can in
            priced.found (path ++ is.stop ∷ []) (subst (λ n. LeadsTo tau task (path ++ is.stop ∷ []) n) (sym is.is) on) (so_far.found path leads was);
        good = λ d n. priced.good d (so_far.good d n);
        tried = λ k h s n e rest way. priced.good (label.delay + rest_delay tau task label (s ∷ rest)) (so_far.tried k h s n e rest way);
        settled = priced.settled;
      })

  -- where all persons were tried
  pub exhausted_persons : (label : Label) (persons : ℕ) (best : Option Route) → (IsAllDone (task_riders task) (task_passengers task) label.done → ⊥) →
      task_riders task + task_passengers task ≤ persons
      → ((k : ℕ) → k < persons → IsPersonTried tau task best label k) → IsExhausted tau task best label
  exhausted_persons label persons best more all tried [] way =
      absurd (more (IsAllDone-from_nil (task_riders task) (task_passengers task) label.done way.completes))
  exhausted_persons label persons best more all tried (s ∷ rest) way =
      let on = goes_on_next points tau t task valid.rider_count label s rest way in
      tried (person_of (task_riders task) s) (omega (arith, person_next (task_riders task) (task_passengers task) label.done s on.0, all)) s on.0 refl rest way

  -- all are dropped, with less delay than what was found
  pub priced_better : (label : Label) (old : Option ℕ) (labels : List Label) → IsAllDone (task_riders task) (task_passengers task) label.done →
      (NoneBetter (route_of old) label.delay → ⊥)
      → All (IsLabelDone points tau task (route_of old)) labels → Priced points tau task label old (Some label.delay) labels
  priced_better label old labels all worse settled =
      let good = good_better (route_of old) (record { stops = record { items = [] }; delay = label.delay }) worse in
      record {
        found = λ path leads was.
            let order = MakesOrders-all task valid.rider_count label.done path all leads.orders in
            let in_time = subst (λ xs. ServesFrom tau task.dwell task.start task.ready (free_seats task) (visits_of task xs)) (append-nil path)
            (leads.serves [] tt) in
            let total : order_delay tau task path ≡ label.delay + rest_delay tau task label [] = ap (λ xs. order_delay tau task xs) (sym (append-nil path)) ∙
            leads.delays [] in
            (path, record { order = order; in_time = in_time }, omega (arith, total));
        good = good;
        exhausted = exhausted_all points tau t task valid label (route_of (Some label.delay)) all (omega arith);
        settled = settled_good points tau task (route_of old) (route_of (Some label.delay)) labels good settled;
      }

  -- where not even at once all can be served from the first label
  pub never_first : (label : Label) → label ≡ first_label task
      → (((i : ℕ) → i < task_riders task → RiderCan tau task label i) → ((j : ℕ) → j < task_passengers task → PassengerCan tau task label j) → ⊥) →
      IsServable tau task → ⊥
  never_first label e hopeless = λ s.
      least_none points tau task 0 (free_seats task) None refl refl (subst (λ n. IsExhausted tau task None n) e
      (exhausted_none points tau t task valid label None hopeless)) s.0 s.1

  -- what the whole search says of the task
  pub priced_least : (label : Label) (best : Option ℕ) (labels : List Label) → label ≡ first_label task → Priced points tau task label None best labels →
      IfSome best (IsLeastDelay tau task)
  priced_least label None labels e priced = tt
  priced_least label (Some delay) labels e priced =
      let found = priced.found [] (subst (λ n. LeadsTo tau task [] n) (sym e) (leads_first points tau t task valid 0 (free_seats task) [] refl refl refl)) tt in
      record {
        stops = found.0;
        serves = found.1;
        has_delay = found.2;
        least = λ others serves. least_none points tau task 0 (free_seats task) (route_of (Some delay)) refl refl
            (subst (λ n. IsExhausted tau task (route_of (Some delay)) n) e priced.exhausted) others serves;
      }

  pub priced_none : (label : Label) (best : Option ℕ) (labels : List Label) → label ≡ first_label task → Priced points tau task label None best labels →
      IfNone best (IsServable tau task → ⊥)
  priced_none label None labels e priced = λ s. least_none points tau task 0 (free_seats task) None refl refl
      (subst (λ n. IsExhausted tau task None n) e priced.exhausted) s.0 s.1
  priced_none label (Some delay) labels e priced = tt
