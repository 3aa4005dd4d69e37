use Rattle.std.proofs.Common.{
  ◌≡◌,
  ℕ,
  ◌+◌,
  ◌<◌,
  ◌≤◌,
  List,
  [],
  ◌∷◌,
  length,
  map,
  get_or,
  take,
  Option,
  Some,
  None,
  Result,
  Ok,
  Err,
  OnOk,
  sym,
  ap,
  ◌∙◌,
  subst,
  arith,
  inl,
  inr,
  All,
  rules,
  IfOk,
  IsErr,
}
use Rattle.stop_orders.proofs.Common.{
  cases_lt,
  All-weaker,
  All-more,
  All-map,
  All-contains,
  IsTravelTime,
  Route,
  Task,
  Stop,
  ServesFrom,
  visits_of,
  free_seats,
  order_delay,
  Serves,
  IsAllDone,
  Completes,
  IsFound,
  NoneBetter,
  StaysGood,
  Label,
  Candidate,
  IsRoutable,
  task_riders,
  task_passengers,
  CanVisit,
  next_label,
  GoesOn,
  rest_delay,
  RiderCan,
  PassengerCan,
  least_ahead,
  IsDominated,
  LeadsTo,
  IsExhausted,
  IsTried,
  IsLabelDone,
  AreCandidates,
  Searched,
  false≢true,
}
use Rattle.stop_orders.proofs.lemmas.task.ClockLemmas.{soon_over, ServesFrom-soon}
use Rattle.stop_orders.proofs.lemmas.task.DoneLemmas.{IsAllDone-from_nil, Completes-none}
use Rattle.stop_orders.proofs.lemmas.search.PlainLemmas.{MakesOrders-all}
use Rattle.std.proofs.lemmas.List.{append-nil}
use Rattle.stop_orders.proofs.search.AheadLemmas.{is_ahead, goes_on_next}
use Rattle.stop_orders.proofs.search.LabelLemmas.{person_next}

-- what follows from a result's fact follows where the result is one
pub on_ok : {A E : Type 0} (r : Result A E) (P Q : Type 0) → (P → Q) → OnOk r P → OnOk r Q
on_ok (Ok x) P Q f p = f p
on_ok (Err e) P Q f p = tt

-- nothing is said of what failed
pub on_err : {A E : Type 0} (r : Result A E) (P : A → Type 0) → IsErr r → IfOk r P
on_err (Ok x) P is = absurd (false≢true is)
on_err (Err e) P is = tt

-- a greater delay is no better either
NoneBetter-more : (best : Option Route) (a b : ℕ) → a ≤ b → NoneBetter best a → NoneBetter best b
NoneBetter-more None a b h n = n
NoneBetter-more (Some route) a b h n = omega arith

-- a better route stays good
pub good_better : (best : Option Route) (route : Route) → (NoneBetter best route.delay → ⊥) → StaysGood best (Some route)
good_better None route worse = λ d n. absurd n
good_better (Some old) route worse = λ d n. elim (cases_lt route.delay old.delay) [ inl less ↦ omega arith | inr more ↦ absurd (worse more) ]

-- what was settled stays so
pub settled_good : (points : ℕ) (tau : ℕ → ℕ → ℕ) (task : Task) (old new : Option Route) (labels : List Label) → StaysGood old new →
    All (IsLabelDone points tau task old) labels → All (IsLabelDone points tau task new) labels
settled_good points tau task old new labels good = All-weaker (IsLabelDone points tau task old) (IsLabelDone points tau task new) (λ label s. record {
  placed = s.placed;
  exhausted = λ rest way. good (label.delay + rest_delay tau task label rest) (s.exhausted rest way);
}) labels

module _ (points : ℕ) (tau : ℕ → ℕ → ℕ) (t : IsTravelTime points tau) (task : Task) (valid : IsRoutable points task) where
  -- where all are dropped, the delay is that of the label
  pub exhausted_all : (label : Label) (best : Option Route) → IsAllDone (task_riders task) (task_passengers task) label.done → NoneBetter best label.delay →
      IsExhausted tau task best label
  exhausted_all label best all none = search rules

  -- a better order was found
  pub searched_better : (path stops : List Stop) (label : Label) (old : Option Route) (route : Route) (labels : List Label) → LeadsTo tau task path label →
      IsAllDone (task_riders task) (task_passengers task) label.done
      → route.stops.items ≡ path → route.delay ≡ label.delay → (NoneBetter old label.delay → ⊥) → All (IsLabelDone points tau task old) labels →
      Searched points tau task label old (Some route) labels
  searched_better path stops label old route labels leads all same delay worse settled =
      let order = MakesOrders-all task valid.rider_count label.done path all leads.orders in
      let in_time = subst (λ xs. ServesFrom tau task.dwell task.start task.ready (free_seats task) (visits_of task xs)) (append-nil path)
      (leads.serves [] tt) in
      let serves : Serves tau task path = record { order = order; in_time = in_time } in
      let total : order_delay tau task path ≡ label.delay + rest_delay tau task label [] = ap (λ xs. order_delay tau task xs) (sym (append-nil path)) ∙
      leads.delays [] in
      let cost : route.delay ≡ order_delay tau task path = omega (arith, delay, total) in
      let worse_than : NoneBetter old route.delay → ⊥ = λ n. worse (subst (λ d. NoneBetter old d) delay n) in
      let good = good_better old route worse_than in
      record {
        found = (subst (λ xs. Serves tau task xs) (sym same) serves, subst (λ xs. route.delay ≡ order_delay tau task xs) (sym same) cost);
        good = good;
        exhausted = exhausted_all label (Some route) all (omega (arith, delay));
        settled = settled_good points tau task old (Some route) labels good settled;
      }

  -- where not even at once all can be served
  pub exhausted_none : (label : Label) (best : Option Route)
      → (((i : ℕ) → i < task_riders task → RiderCan tau task label i) → ((j : ℕ) → j < task_passengers task → PassengerCan tau task label j) → ⊥) →
      IsExhausted tau task best label
  exhausted_none label best hopeless = λ rest way.
      let ahead = is_ahead points tau t task valid.rider_count rest label way in
      absurd (hopeless ahead.riders ahead.passengers)

  -- where no way on can be better
  pub exhausted_bound : (label : Label) (best : Option Route) (ahead : ℕ) → ahead ≡ least_ahead tau task label → NoneBetter best (label.delay + ahead) →
      IsExhausted tau task best label
  exhausted_bound label best ahead is none = λ rest way.
      NoneBetter-more best (label.delay + ahead) (label.delay + rest_delay tau task label rest)
      (omega (arith, is, (is_ahead points tau t task valid.rider_count rest label way).least)) none

  -- where a settled label dominates
  pub exhausted_dominated : (label : Label) (best : Option Route) (labels : List Label) → IsDominated tau labels label →
      All (IsLabelDone points tau task best) labels → IsExhausted tau task best label
  exhausted_dominated label best labels dominated settled = search (rules, soon_over, ServesFrom-soon, Completes, NoneBetter-more)

  -- a stop was tried where no way on from its next label is better
  pub tried_exhausted : (label next : Label) (s : Stop) (best : Option Route) → next ≡ next_label tau task label s → IsExhausted tau task best next →
      IsTried tau task best label s
  tried_exhausted label next s best e exhausted = λ rest way.
      let on = goes_on_next points tau t task valid.rider_count label s rest way in
      let there = exhausted rest (subst (λ n. GoesOn tau task n rest) (sym e) on.2) in
      let here = subst (λ n. NoneBetter best (n.delay + rest_delay tau task n rest)) e there in
      let same : (next_label tau task label s).delay + rest_delay tau task (next_label tau task label s) rest ≡ label.delay + rest_delay tau task label
      (s ∷ rest) = omega arith in
      subst (λ d. NoneBetter best d) same here

  -- .. or where it can't be made
  pub tried_never : (label : Label) (s : Stop) (best : Option Route) → (CanVisit tau task label s → ⊥) → IsTried tau task best label s
  tried_never label s best never = λ rest way. absurd (never (goes_on_next points tau t task valid.rider_count label s rest way).1)

  -- where all candidates were tried
  pub exhausted_tried : (label : Label) (best : Option Route) (candidates : List Candidate) →
      (IsAllDone (task_riders task) (task_passengers task) label.done → ⊥) → AreCandidates tau task label (task_riders task + task_passengers task) candidates
      → All (λ c. IsTried tau task best label c.stop) candidates → IsExhausted tau task best label
  exhausted_tried label best candidates more are tried [] way =
      absurd (more (IsAllDone-from_nil (task_riders task) (task_passengers task) label.done way.completes))
  exhausted_tried label best candidates more are tried (s ∷ rest) way =
      let on = goes_on_next points tau t task valid.rider_count label s rest way in
      let listed = are.whole s on.0 (person_next (task_riders task) (task_passengers task) label.done s on.0) on.1 in
      All-contains (IsTried tau task best label) (map (λ c. c.stop) candidates) s (All-map (IsTried tau task best label) (λ c. c.stop) candidates tried) listed
      rest way

-- what holds in the loop over the candidates
pub record TriesAll (points : ℕ) (tau : ℕ → ℕ → ℕ) (task : Task) (label : Label) (path now : List Stop) (first best : Option Route) (labels : List Label)
    (done : List Candidate) : Type 0 where
  pub same : now ≡ path
  pub found : IsFound tau task best
  pub good : StaysGood first best
  pub settled : All (IsLabelDone points tau task best) labels
  pub tried : All (λ c. IsTried tau task best label c.stop) done

pub tries_more : (points : ℕ) (tau : ℕ → ℕ → ℕ) (task : Task) (label next : Label) (path before after : List Stop) (first old new : Option Route)
    (labels more : List Label) (candidates : List Candidate) (i : ℕ) (c : Candidate)
    → i < length candidates → c ≡ get_or candidates i c → after ≡ path → Searched points tau task next old new more → IsTried tau task new label c.stop
    → TriesAll points tau task label path before first old labels (take i candidates) → TriesAll points tau task label path after first new more
    (take (i + 1) candidates)
tries_more points tau task label next path before after first old new labels more candidates i c h read same searched here so_far = record {
  same = same;
  found = searched.found;
  good = λ d n. searched.good d (so_far.good d n);
  settled = searched.settled;
  tried = All-more (λ c. IsTried tau task new label c.stop) candidates i c h
      (All-weaker (λ c. IsTried tau task old label c.stop) (λ c. IsTried tau task new label c.stop)
      (λ c tried rest way. searched.good (label.delay + rest_delay tau task label (c.stop ∷ rest)) (tried rest way)) (take i candidates) so_far.tried)
      (subst (λ c. IsTried tau task new label c.stop) read here);
}

-- what the whole search says of the task
pub least_none : (points : ℕ) (tau : ℕ → ℕ → ℕ) (task : Task) (done room : ℕ) (best : Option Route) → done ≡ 0 → room ≡ free_seats task
    → IsExhausted tau task best (record { done = done; place = task.start; free = task.ready; room = room; delay = 0 }) → (stops : List Stop) →
    Serves tau task stops → NoneBetter best (order_delay tau task stops)
least_none points tau task done room best e f exhausted = λ stops serves.
    let start = subst (λ n. IsExhausted tau task best (record { done = 0; place = task.start; free = task.ready; room = n; delay = 0 })) f
    (subst (λ n. IsExhausted tau task best (record { done = n; place = task.start; free = task.ready; room = room; delay = 0 })) e exhausted) in
    let way : GoesOn tau task (record { done = 0; place = task.start; free = task.ready; room = free_seats task; delay = 0 }) stops =
    record { completes = Completes-none (task_riders task) (task_passengers task) stops serves.order; serves = serves.in_time } in
    let same : 0 + order_delay tau task stops ≡ order_delay tau task stops = omega arith in
    subst (λ d. NoneBetter best d) same (start stops way)
