-- What remains of an order when its first stops are done.
use Rattle.std.specs.Prelude.{◌≡◌, ◌==◌, ℕ, zero, suc, ◌+◌, ◌<◌, ◌≤◌, if◌then◌else◌, List, [], ◌∷◌, ◌++◌, length, map, drop, remove}
use Rattle.pool_base.specs.TravelTime.{never, longest}
use Rattle.stop_orders.specs.Laws.{stop_without_passenger, without_passenger, number_without}
use Rattle.stop_orders.specs.task.Task.{IsTask, Serves, leg_at, seconds_of, visits_of}
use Rattle.stop_orders.specs.task.Visit.{place_of}
use Rattle.stop_orders.specs.declared.task.stop.Stop.{Stop}
use Rattle.stop_orders.specs.declared.task.stop.Stop.TheVariants.{Pick, Drop, Alight}
use Rattle.stop_orders.specs.declared.task.task.Task.{Task}
use Rattle.stop_orders.specs.declared.task.visit.Visit.{Visit}

-- the task after its first stop: who was picked up is the last passenger, who got out is gone
abbrev pub task_after : Stop → Task → Task
task_after (Pick i) task = record task {
  riders = record { items = remove task.riders.items i };
  aboard = record { items = task.aboard.items ++ leg_at task.riders.items i ∷ [] };
}
task_after (Drop i) task = task
task_after (Alight j) task = without_passenger j task

-- what a later stop is called then, where so many passengers were aboard: who was picked up gets out as the last of
-- them, and the numbers above one that is gone move down
abbrev pub stop_after : Stop → ℕ → Stop → Stop
stop_after (Pick i) passengers (Pick k) = Pick (number_without i k)
stop_after (Pick i) passengers (Drop k) = if k == i then Alight passengers else Drop (number_without i k)
stop_after (Pick i) passengers (Alight k) = Alight k
stop_after (Drop i) passengers stop = stop
stop_after (Alight j) passengers stop = stop_without_passenger j stop

-- the task and the stops that remain after the first k stops
abbrev pub rest_of : ℕ → Task → List Stop → Task × List Stop
rest_of zero task stops = (task, stops)
rest_of (suc k) task [] = (task, [])
rest_of (suc k) task (stop ∷ stops) = rest_of k (task_after stop task) (map (stop_after stop (length task.aboard.items)) stops)

-- the same task for a vehicle that is ready at another place, at another second
abbrev pub ready_at : ℕ → ℕ → Task → Task
ready_at place ready task = record task { start = place; ready = ready }

-- whoever leaves this place at this second reaches the next visit, if there is one, at its second
abbrev pub MeetsNext : (ℕ → ℕ → ℕ) → ℕ → ℕ → List Visit → List ℕ → Type 0
MeetsNext tau place ready (visit ∷ visits) (second ∷ seconds) = (tau place (place_of visit) < never) × (ready + tau place (place_of visit) ≡ second)
MeetsNext tau place ready visits seconds = Unit {0}

-- the stops after the first k are a serving order of what remains, for a vehicle that is ready at a place and a
-- second; they are the same visits, each at the second that it had
pub record RestServes (points : ℕ) (tau : ℕ → ℕ → ℕ) (task : Task) (stops : List Stop) (k place ready : ℕ) : Type 0 where
  pub valid : IsTask points (ready_at place ready (rest_of k task stops).0)
  pub serves : Serves tau (ready_at place ready (rest_of k task stops).0) (rest_of k task stops).1
  pub visits : visits_of (rest_of k task stops).0 (rest_of k task stops).1 ≡ drop k (visits_of task stops)
  pub seconds : seconds_of tau (ready_at place ready (rest_of k task stops).0) (rest_of k task stops).1 ≡ drop k (seconds_of tau task stops)

-- a serving order goes on to serve from any place and second from which its next stop is met
abbrev pub OrdersGoOn : Type 0
OrdersGoOn = (points : ℕ) (tau : ℕ → ℕ → ℕ) (task : Task) (stops : List Stop) (k place ready : ℕ)
    → IsTask points task → Serves tau task stops → place < points → ready ≤ longest
    → MeetsNext tau place ready (drop k (visits_of task stops)) (drop k (seconds_of tau task stops))
    → RestServes points tau task stops k place ready
