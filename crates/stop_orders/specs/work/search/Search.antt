use Rattle.std.specs.Prelude.{◌≡◌, ℕ, ◌+◌, ◌<◌, ◌≤◌, All, Contains, List, ◌∷◌, ◌++◌, Option, length, map}
use Rattle.stop_orders.specs.declared.task.route.Route.{Route}
use Rattle.stop_orders.specs.declared.task.task.Task.{Task}
use Rattle.stop_orders.specs.declared.task.stop.Stop.{Stop}
use Rattle.stop_orders.specs.declared.task.stop.Stop.TheVariants.{Pick, Drop, Alight}
use Rattle.stop_orders.specs.task.Visit.{ServesFrom}
use Rattle.stop_orders.specs.task.Task.{visits_of, order_delay}
use Rattle.stop_orders.specs.lemmas.task.Named.{free_seats}
use Rattle.stop_orders.specs.task.Done.{IsNextStop}
use Rattle.stop_orders.specs.lemmas.search.Plain.{IsFound, NoneBetter, StaysGood, MakesOrders}
use Rattle.stop_orders.specs.declared.search.label.Label.{Label}
use Rattle.stop_orders.specs.declared.search.candidate.Candidate.{Candidate}
use Rattle.stop_orders.specs.work.search.Label.{task_riders, task_passengers, CanVisit, GoesOn, rest_delay, second_at}
use Rattle.stop_orders.specs.work.search.LabelStore.{IsLabelPlaced}

-- these stops lead to the label: whatever goes on from it goes on from them
pub record LeadsTo (tau : ℕ → ℕ → ℕ) (task : Task) (path : List Stop) (label : Label) : Type 0 where
  pub orders : MakesOrders task label.done path
  pub serves : (rest : List Stop) → ServesFrom tau task.dwell label.place label.free label.room (visits_of task rest)
      → ServesFrom tau task.dwell task.start task.ready (free_seats task) (visits_of task (path ++ rest))
  pub delays : (rest : List Stop) → order_delay tau task (path ++ rest) ≡ label.delay + rest_delay tau task label rest

-- no way on from the label is better than what was found
abbrev pub IsExhausted : (ℕ → ℕ → ℕ) → Task → Option Route → Label → Type 0
IsExhausted tau task best label = (rest : List Stop) → GoesOn tau task label rest → NoneBetter best (label.delay + rest_delay tau task label rest)

-- no way on from the label by this stop is better than what was found
abbrev pub IsTried : (ℕ → ℕ → ℕ) → Task → Option Route → Label → Stop → Type 0
IsTried tau task best label stop = (rest : List Stop) → GoesOn tau task label (stop ∷ rest) → NoneBetter best (label.delay + rest_delay tau task label (stop ∷ rest))

-- a label that is kept: no way on from it is better than what was found
pub record IsLabelDone (points : ℕ) (tau : ℕ → ℕ → ℕ) (task : Task) (best : Option Route) (label : Label) : Type 0 where
  pub placed : IsLabelPlaced points label
  pub exhausted : IsExhausted tau task best label

-- a stop that may come next and can be served, at the second at which it is reached
pub record IsCandidate (tau : ℕ → ℕ → ℕ) (task : Task) (label : Label) (candidate : Candidate) : Type 0 where
  pub next : IsNextStop (task_riders task) (task_passengers task) label.done candidate.stop
  pub can : CanVisit tau task label candidate.stop
  pub second : candidate.second ≡ second_at tau task label candidate.stop

-- whose stop it is, riders first
abbrev pub person_of : ℕ → Stop → ℕ
person_of riders (Pick i) = i
person_of riders (Drop i) = i
person_of riders (Alight j) = riders + j

-- the person was dropped
abbrev pub HasNoStop : ℕ → ℕ → ℕ → ℕ → Type 0
HasNoStop riders passengers done person = (s : Stop) → IsNextStop riders passengers done s → person_of riders s ≡ person → ⊥

-- the stop is the person's next one
pub record IsOnlyStop (riders passengers done person : ℕ) (stop : Stop) : Type 0 where
  pub next : IsNextStop riders passengers done stop
  pub only : (s : Stop) → IsNextStop riders passengers done s → person_of riders s ≡ person → s ≡ stop

-- the candidates are all stops that may come next and can be served, of the first so many persons
pub record AreCandidates (tau : ℕ → ℕ → ℕ) (task : Task) (label : Label) (persons : ℕ) (candidates : List Candidate) : Type 0 where
  pub few : length candidates ≤ persons
  pub each : All (IsCandidate tau task label) candidates
  pub whole : (s : Stop) → IsNextStop (task_riders task) (task_passengers task) label.done s → person_of (task_riders task) s < persons → CanVisit tau task label s
      → Contains (map (λ candidate. candidate.stop) candidates) s

-- what a search from a label leaves: what was found is right, as good as before, and no way on is better
pub record Searched (points : ℕ) (tau : ℕ → ℕ → ℕ) (task : Task) (label : Label) (old new : Option Route) (labels : List Label) : Type 0 where
  pub found : IsFound tau task new
  pub good : StaysGood old new
  pub exhausted : IsExhausted tau task new label
  pub settled : All (IsLabelDone points tau task new) labels
