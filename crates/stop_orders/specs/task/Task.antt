use Rattle.std.specs.Prelude.{◌≡◌, ℕ, ◌-◌, ◌<◌, ◌≤◌, List, All, length, map, sum_by, slice_index_or}
use Rattle.pool_base.specs.TravelTime.{longest}
use Rattle.stop_orders.specs.declared.task.leg.Leg.{Leg}
use Rattle.stop_orders.specs.declared.task.task.Task.{Task}
use Rattle.stop_orders.specs.declared.task.stop.Stop.{Stop}
use Rattle.stop_orders.specs.declared.task.stop.Stop.TheVariants.{Pick, Drop, Alight}
use Rattle.stop_orders.specs.declared.task.visit.Visit.{Visit}
use Rattle.stop_orders.specs.declared.task.visit.Visit.TheVariants.{Pickup, Dropoff}
use Rattle.stop_orders.specs.task.Order.{IsOrder}
use Rattle.stop_orders.specs.task.Visit.{Reaches, seconds_from, ServesFrom, delay_from}

-- what is read where there is no such leg
abbrev pub no_leg : Leg
no_leg = record { origin = 0; destination = 0; latest_pickup = 0; ideal = 0; latest_dropoff = 0; party = 1 }

-- the leg of a number
abbrev pub leg_at : List Leg → ℕ → Leg
leg_at legs k = slice_index_or legs k no_leg

-- a leg between places of the table, with a party of 1 to 6 and limits of at most 4,000,000,000
pub record IsLeg (points : ℕ) (leg : Leg) : Type 0 where
  pub origin : leg.origin < points
  pub destination : leg.destination < points
  pub latest_pickup : leg.latest_pickup ≤ 4000000000
  pub ideal : leg.ideal ≤ 4000000000
  pub latest_dropoff : leg.latest_dropoff ≤ 4000000000
  pub someone : 1 ≤ leg.party
  pub party : leg.party ≤ 6

-- how many persons the legs have together
abbrev pub persons : List Leg → ℕ
persons legs = sum_by (λ leg. leg.party) legs

-- a task over a table of so many places, whose passengers find their seats
pub record IsTask (points : ℕ) (task : Task) : Type 0 where
  pub start : task.start < points
  pub ready : task.ready ≤ longest
  pub dwell : task.dwell ≤ 600
  pub seats : task.seats ≤ 10
  pub seated : persons task.aboard.items ≤ task.seats
  pub passenger_count : length task.aboard.items ≤ 10
  pub rider_count : length task.riders.items ≤ 6
  pub passengers : All (IsLeg points) task.aboard.items
  pub riders : All (IsLeg points) task.riders.items

-- what the clock and the seats see of a stop
abbrev pub visit_at : Task → Stop → Visit
visit_at task (Pick i) = let leg = leg_at task.riders.items i in Pickup leg.origin leg.latest_pickup leg.party
visit_at task (Drop i) = let leg = leg_at task.riders.items i in Dropoff leg.destination leg.latest_dropoff leg.ideal leg.party
visit_at task (Alight j) = let leg = leg_at task.aboard.items j in Dropoff leg.destination leg.latest_dropoff leg.ideal leg.party

-- what the clock and the seats see of each stop
abbrev pub visits_of : Task → List Stop → List Visit
visits_of task stops = map (visit_at task) stops

-- the stops are an order for the passengers and the riders of the task
abbrev pub IsOrderOf : Task → List Stop → Type 0
IsOrderOf task stops = IsOrder (length task.riders.items) (length task.aboard.items) stops

-- all stops can be reached, one after the other
abbrev pub ReachesAll : (ℕ → ℕ → ℕ) → Task → List Stop → Type 0
ReachesAll tau task stops = Reaches tau task.start (visits_of task stops)

-- the second of each stop
abbrev pub seconds_of : (ℕ → ℕ → ℕ) → Task → List Stop → List ℕ
seconds_of tau task stops = seconds_from tau task.dwell task.start task.ready (visits_of task stops)

-- the sum of the delays of the drop-offs
abbrev pub order_delay : (ℕ → ℕ → ℕ) → Task → List Stop → ℕ
order_delay tau task stops = delay_from tau task.dwell task.start task.ready (visits_of task stops)

-- the stops are an order that serves the task: all are reached in time, with a seat for each person
pub record Serves (tau : ℕ → ℕ → ℕ) (task : Task) (stops : List Stop) : Type 0 where
  pub order : IsOrderOf task stops
  pub in_time : ServesFrom tau task.dwell task.start task.ready (task.seats - sum_by (λ leg. leg.party) task.aboard.items) (visits_of task stops)

-- some order serves the task
abbrev pub IsServable : (ℕ → ℕ → ℕ) → Task → Type 0
IsServable tau task = (stops : List Stop) × Serves tau task stops

-- some order that serves the task has this delay, and none has less
pub record IsLeastDelay (tau : ℕ → ℕ → ℕ) (task : Task) (delay : ℕ) : Type 0 where
  pub stops : List Stop
  pub serves : Serves tau task stops
  pub has_delay : order_delay tau task stops ≡ delay
  pub least : (others : List Stop) → Serves tau task others → delay ≤ order_delay tau task others
