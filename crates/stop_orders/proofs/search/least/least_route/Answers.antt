use Rattle.std.proofs.Common.{◌≡◌, ℕ, ◌≤◌, List, Option, None, Some, IfSome, IfNone, refl, sym, subst, arith, All}
use Rattle.stop_orders.proofs.Common.{
  point_count,
  travel_time,
  IsTravelTime,
  Route,
  Stop,
  Task,
  Serves,
  order_delay,
  NoneBetter,
  free_seats,
  left_count,
  task_riders,
  task_passengers,
  first_label,
  Label,
  IsRoutable,
  IsSmallLabel,
  IsExhausted,
  LeadsTo,
  IsFound,
  IsLabelDone,
}
use Rattle.stop_orders.proofs.search.LabelLemmas.{small_first, left_first, leads_first}
use Rattle.stop_orders.proofs.search.SearchLemmas.{least_none, on_err}
use Rattle.stop_orders.proofs.search.least.least_route.Goals as goal

least_of : (tau : ℕ → ℕ → ℕ) (task : Task) (best : Option Route) → ((stops : List Stop) → Serves tau task stops → NoneBetter best (order_delay tau task stops))
    → IfSome best (λ route. (stops : List Stop) → Serves tau task stops → route.delay ≤ order_delay tau task stops)
least_of tau task None h = tt
least_of tau task (Some route) h = h

none_of : (tau : ℕ → ℕ → ℕ) (task : Task) (best : Option Route) → ((stops : List Stop) → Serves tau task stops → NoneBetter best (order_delay tau task stops))
    → IfNone best ((stops : List Stop) → Serves tau task stops → ⊥)
none_of tau task None h = h
none_of tau task (Some route) h = tt

-- what was found serves, and has its delay
found_serves : (tau : ℕ → ℕ → ℕ) (task : Task) (best : Option Route) → IsFound tau task best → IfSome best (λ route. Serves tau task route.stops.items)
found_serves tau task None found = tt
found_serves tau task (Some route) found = found.0

found_delay : (tau : ℕ → ℕ → ℕ) (task : Task) (best : Option Route) → IsFound tau task best →
    IfSome best (λ route. route.delay ≡ order_delay tau task route.stops.items)
found_delay tau task None found = tt
found_delay tau task (Some route) found = found.1

-- where no way on from the first label is better, no order is
none_left : (points : ℕ) (tau : ℕ → ℕ → ℕ) (task : Task) (label : Label) (best : Option Route) → label ≡ first_label task → IsExhausted tau task best label →
    (stops : List Stop) → Serves tau task stops → NoneBetter best (order_delay tau task stops)
none_left points tau task label best e exhausted = least_none points tau task 0 (free_seats task) best refl refl
    (subst (λ l. IsExhausted tau task best l) e exhausted)

label_small : (points : ℕ) (tau : ℕ → ℕ → ℕ) → IsTravelTime points tau → (task : Task) → IsRoutable points task → (label : Label) → label ≡ first_label task →
    IsSmallLabel points (left_count (task_riders task) (task_passengers task) label.done) label
label_small points tau t task valid label e =
    subst (λ l. IsSmallLabel points (left_count (task_riders task) (task_passengers task) l.done) l) (sym e)
    (small_first points tau t task valid 0 (free_seats task) refl refl)

pub try_all-requires-clause-leads : goal.try_all-requires-clause-leads
try_all-requires-clause-leads c =
    let first = leads_first (point_count c.args.times.now) (travel_time c.args.times.now) c.args.times.now.table.times c.args.task.now c.requires.valid 0
    (free_seats c.args.task.now) c.new-path.result.items refl refl c.new-path.ensures in
    subst (λ l. LeadsTo (travel_time c.args.times.now) c.args.task.now c.new-path.result.items l) (sym c.first_label_of-label.ensures) first

pub is_hopeless-requires-clause-small : goal.is_hopeless-requires-clause-small
is_hopeless-requires-clause-small c =
    label_small (point_count c.args.times.now) (travel_time c.args.times.now) c.args.times.now.table.times c.args.task.now c.requires.valid
    c.first_label_of-label.result c.first_label_of-label.ensures

pub returns-then-is_hopeless-clause-none : goal.returns-then-is_hopeless-clause-none
returns-then-is_hopeless-clause-none c = λ stops serves.
    none_left (point_count c.args.times.now) (travel_time c.args.times.now) c.args.task.now c.first_label_of-label.result None c.first_label_of-label.ensures
    (c.is_hopeless.ensures c.if-is_hopeless.true) stops serves

pub try_all-requires-clause-small : goal.try_all-requires-clause-small
try_all-requires-clause-small c =
    label_small (point_count c.args.times.now) (travel_time c.args.times.now) c.args.times.now.table.times c.args.task.now c.requires.valid
    c.first_label_of-label.result c.first_label_of-label.ensures

pub try_all-requires-clause-room : goal.try_all-requires-clause-room
try_all-requires-clause-room c =
    rw c.first_label_of-label.ensures (left_first (point_count c.args.times.now) (travel_time c.args.times.now) c.args.times.now.table.times c.args.task.now
    c.requires.valid 0 c.new-path.result.items c.new-path.ensures)

pub returns-clause-least : goal.returns-clause-least
returns-clause-least c =
    least_of _ _ _ (none_left (point_count c.args.times.now) (travel_time c.args.times.now) c.args.task.now c.first_label_of-label.result c.try_all.new.best
    c.first_label_of-label.ensures c.in_ok-try_all.ensures.searched.exhausted)

pub returns-clause-none : goal.returns-clause-none
returns-clause-none c =
    none_of _ _ _ (none_left (point_count c.args.times.now) (travel_time c.args.times.now) c.args.task.now c.first_label_of-label.result c.try_all.new.best
    c.first_label_of-label.ensures c.in_ok-try_all.ensures.searched.exhausted)

pub try_all-requires-clause-valid : goal.try_all-requires-clause-valid
try_all-requires-clause-valid c = c.requires.valid

pub try_all-requires-clause-settled : goal.try_all-requires-clause-settled
try_all-requires-clause-settled c = subst (λ labels. All (IsLabelDone (point_count c.args.times.now) (travel_time c.args.times.now) c.args.task.now None)
    labels) (sym c.in_ok-begin.ensures) (λ k d h. absurd (omega (arith, h)))

pub returns-in_err-try_all-clause-least : goal.returns-in_err-try_all-clause-least
returns-in_err-try_all-clause-least c = on_err c.from_residual-in_err-try_all.result _ c.from_residual-in_err-try_all.ensures.0

pub returns-clause-serves : goal.returns-clause-serves
returns-clause-serves c = found_serves _ _ c.try_all.new.best c.in_ok-try_all.ensures.searched.found

pub returns-clause-delay : goal.returns-clause-delay
returns-clause-delay c = found_delay _ _ c.try_all.new.best c.in_ok-try_all.ensures.searched.found
