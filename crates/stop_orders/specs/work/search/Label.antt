use Rattle.std.specs.Prelude.{ℕ, ◌+◌, ◌*◌, ◌<◌, ◌≤◌, All, List, length}
use Rattle.pool_base.specs.TravelTime.{never, longest}
use Rattle.stop_orders.specs.declared.task.leg.Leg.{Leg}
use Rattle.stop_orders.specs.declared.task.task.Task.{Task}
use Rattle.stop_orders.specs.declared.task.stop.Stop.{Stop}
use Rattle.stop_orders.specs.task.Visit.{place_of, latest_of, boarding_of, room_after, lateness, ServesFrom, delay_from}
use Rattle.stop_orders.specs.task.Task.{persons, visit_at, visits_of}
use Rattle.stop_orders.specs.lemmas.task.Named.{free_seats}
use Rattle.stop_orders.specs.task.Done.{with_stop}
use Rattle.stop_orders.specs.lemmas.task.Rest.{Completes}
use Rattle.stop_orders.specs.declared.search.label.Label.{Label}

-- a leg between places of the table, with a party of at most 6
pub record IsRoutableLeg (points : ℕ) (leg : Leg) : Type 0 where
  pub origin : leg.origin < points
  pub destination : leg.destination < points
  pub party : leg.party ≤ 6

-- a task over a table of so many places, whatever its limits
pub record IsRoutable (points : ℕ) (task : Task) : Type 0 where
  pub start : task.start < points
  pub ready : task.ready ≤ longest
  pub dwell : task.dwell ≤ 600
  pub seats : task.seats ≤ 10
  pub seated : persons task.aboard.items ≤ task.seats
  pub passenger_count : length task.aboard.items ≤ 10
  pub rider_count : length task.riders.items ≤ 6
  pub passengers : All (IsRoutableLeg points) task.aboard.items
  pub riders : All (IsRoutableLeg points) task.riders.items

abbrev pub task_riders : Task → ℕ
task_riders task = length task.riders.items

abbrev pub task_passengers : Task → ℕ
task_passengers task = length task.aboard.items

-- the label before the first stop
abbrev pub first_label : Task → Label
first_label task = record { done = 0; place = task.start; free = task.ready; room = free_seats task; delay = 0 }

-- the second at which a stop is reached from a label
abbrev pub second_at : (ℕ → ℕ → ℕ) → Task → Label → Stop → ℕ
second_at tau task label stop = label.free + tau label.place (place_of (visit_at task stop))

-- the stop can be reached from the label in time, and finds its seats
abbrev pub CanVisit : (ℕ → ℕ → ℕ) → Task → Label → Stop → Type 0
CanVisit tau task label stop =
    (tau label.place (place_of (visit_at task stop)) < never) × (second_at tau task label stop ≤ latest_of (visit_at task stop))
    × (boarding_of (visit_at task stop) ≤ label.room)

-- the label after one more stop, at a second
abbrev pub label_at : Task → Label → Stop → ℕ → Label
label_at task label stop second = record {
  done = with_stop label.done stop;
  place = place_of (visit_at task stop);
  free = second + task.dwell;
  room = room_after (visit_at task stop) label.room;
  delay = label.delay + lateness (visit_at task stop) second;
}

-- the label after one more stop
abbrev pub next_label : (ℕ → ℕ → ℕ) → Task → Label → Stop → Label
next_label tau task label stop = label_at task label stop (second_at tau task label stop)

-- these stops complete what is done, and serve from the label
pub record GoesOn (tau : ℕ → ℕ → ℕ) (task : Task) (label : Label) (rest : List Stop) : Type 0 where
  pub completes : Completes (task_riders task) (task_passengers task) label.done rest
  pub serves : ServesFrom tau task.dwell label.place label.free label.room (visits_of task rest)

-- the delay of the stops from the label on
abbrev pub rest_delay : (ℕ → ℕ → ℕ) → Task → Label → List Stop → ℕ
rest_delay tau task label rest = delay_from tau task.dwell label.place label.free (visits_of task rest)

-- the label is in the table, and its numbers are small, with so many stops left
pub record IsSmallLabel (points left : ℕ) (label : Label) : Type 0 where
  pub place : label.place < points
  pub free : label.free + left * 1000000600 ≤ 30000000000
  pub room : label.room + left * 6 ≤ 150
  pub delay : label.delay + left * 100000000000 ≤ 3000000000000
