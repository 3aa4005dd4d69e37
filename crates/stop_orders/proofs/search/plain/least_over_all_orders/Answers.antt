use Rattle.std.proofs.Common.{◌≡◌, ℕ, ◌≤◌, List, [], length, Option, None, Some, subst, sym, ap, arith, IfSome, IfNone}
use Rattle.stop_orders.proofs.Common.{Route, Stop, Task, Serves, order_delay, MakesOrders, NoneBetter, AllTried}
use Rattle.stop_orders.proofs.lemmas.task.DoneLemmas.{left_count-most, Completes-none}
use Rattle.stop_orders.proofs.lemmas.search.PlainLemmas.{MakesOrders-none}
use Rattle.stop_orders.proofs.search.plain.least_over_all_orders.Goals as goal

-- after all was tried, nothing is better than what was found
all_tried : (tau : ℕ → ℕ → ℕ) (task : Task) (done : ℕ) (path : List Stop) (best : Option Route) → done ≡ 0 → path ≡ [] → AllTried tau task done path best
    → (stops : List Stop) → Serves tau task stops → NoneBetter best (order_delay tau task stops)
all_tried tau task done path best e f tried =
    let here = subst (λ d. AllTried tau task d [] best) e (subst (λ p. AllTried tau task done p best) f tried) in
    λ stops s. here stops (Completes-none (length task.riders.items) (length task.aboard.items) stops s.order) s

least_of : (tau : ℕ → ℕ → ℕ) (task : Task) (best : Option Route) → ((stops : List Stop) → Serves tau task stops → NoneBetter best (order_delay tau task stops))
    → IfSome best (λ route. (stops : List Stop) → Serves tau task stops → route.delay ≤ order_delay tau task stops)
least_of tau task None h = tt
least_of tau task (Some route) h = h

none_of : (tau : ℕ → ℕ → ℕ) (task : Task) (best : Option Route) → ((stops : List Stop) → Serves tau task stops → NoneBetter best (order_delay tau task stops))
    → IfNone best ((stops : List Stop) → Serves tau task stops → ⊥)
none_of tau task None h = h
none_of tau task (Some route) h = tt

pub try_rests-requires-clause-orders : goal.try_rests-requires-clause-orders
try_rests-requires-clause-orders c =
    subst (λ d. MakesOrders c.args.task.now d c.new-path.result.items) (sym c.none.ensures)
    (subst (λ p. MakesOrders c.args.task.now 0 p) (sym c.new-path.ensures) (MakesOrders-none c.args.task.now))

pub try_rests-requires-clause-room : goal.try_rests-requires-clause-room
try_rests-requires-clause-room c =
    let most = left_count-most (length c.args.task.now.riders.items) (length c.args.task.now.aboard.items) c.none.result in
    let few = c.requires.valid.rider_count in
    let seated = c.requires.valid.passenger_count in
    let empty : length c.new-path.result.items ≡ 0 = ap length c.new-path.ensures in
    omega (arith, most, few, seated, empty)

pub returns-clause-least : goal.returns-clause-least
returns-clause-least c = least_of _ _ _ (all_tried _ _ _ _ _ c.none.ensures c.new-path.ensures c.try_rests.ensures.tried)

pub returns-clause-none : goal.returns-clause-none
returns-clause-none c = none_of _ _ _ (all_tried _ _ _ _ _ c.none.ensures c.new-path.ensures c.try_rests.ensures.tried)
