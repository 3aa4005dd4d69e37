use Rattle.std.proofs.Common.{ℕ, ◌<◌, length}
use Rattle.stop_orders.proofs.Common.{Task, Stop, Pick, Drop, Alight, IsKnown, place_of, no_leg, IsLeg, leg_at, IsTask, visit_at}

module _ (points : ℕ) (task : Task) (valid : IsTask points task) where
  pub rider_leg : (i : ℕ) → i < length task.riders.items → IsLeg points (leg_at task.riders.items i)
  rider_leg i h = valid.riders i no_leg h

  pub passenger_leg : (j : ℕ) → j < length task.aboard.items → IsLeg points (leg_at task.aboard.items j)
  passenger_leg j h = valid.passengers j no_leg h

  -- a visit of the task is in the table
  pub visit_place : (s : Stop) → IsKnown (length task.riders.items) (length task.aboard.items) s → place_of (visit_at task s) < points
  visit_place (Pick i) h = (rider_leg i h).origin
  visit_place (Drop i) h = (rider_leg i h).destination
  visit_place (Alight j) h = (passenger_leg j h).destination
