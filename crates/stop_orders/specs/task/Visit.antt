use Rattle.std.specs.Prelude.{ℕ, ◌+◌, ◌-◌, ◌<◌, ◌≤◌, List, [], ◌∷◌}
use Rattle.pool_base.specs.TravelTime.{never}
use Rattle.stop_orders.specs.declared.task.visit.Visit.{Visit}
use Rattle.stop_orders.specs.declared.task.visit.Visit.TheVariants.{Pickup, Dropoff}

-- where a visit is
abbrev pub place_of : Visit → ℕ
place_of (Pickup place latest party) = place
place_of (Dropoff place latest ideal party) = place

-- the last second at which it is in time
abbrev pub latest_of : Visit → ℕ
latest_of (Pickup place latest party) = latest
latest_of (Dropoff place latest ideal party) = latest

-- how many persons get in
abbrev pub boarding_of : Visit → ℕ
boarding_of (Pickup place latest party) = party
boarding_of (Dropoff place latest ideal party) = 0

-- the free seats after it
abbrev pub room_after : Visit → ℕ → ℕ
room_after (Pickup place latest party) room = room - party
room_after (Dropoff place latest ideal party) room = room + party

-- how long after its ideal second a drop-off at this second is, or 0; a pickup has no delay
abbrev pub lateness : Visit → ℕ → ℕ
lateness (Pickup place latest party) second = 0
lateness (Dropoff place latest ideal party) second = second - ideal

-- each place can be reached from the one before
abbrev pub Reaches : (ℕ → ℕ → ℕ) → ℕ → List Visit → Type 0
Reaches tau place [] = Unit {0}
Reaches tau place (v ∷ vs) = (tau place (place_of v) < never) × Reaches tau (place_of v) vs

-- visits at these seconds: each can be reached from the place before, is in time, and finds its seats free
abbrev pub AreServed : (ℕ → ℕ → ℕ) → ℕ → ℕ → List ℕ → List Visit → Type 0
AreServed tau place room (second ∷ seconds) (v ∷ vs) =
    (tau place (place_of v) < never) × (second ≤ latest_of v) × (boarding_of v ≤ room) × AreServed tau (place_of v) (room_after v room) seconds vs
AreServed tau place room _ _ = Unit {0}

-- the sum of the delays of visits at these seconds
abbrev pub delay_at : List ℕ → List Visit → ℕ
delay_at (second ∷ seconds) (v ∷ vs) = lateness v second + delay_at seconds vs
delay_at _ _ = 0

module _ (tau : ℕ → ℕ → ℕ) (dwell : ℕ) where
  -- the second at which each visit is reached by a vehicle that is free to leave the place at this second;
  -- a dwell lies between two visits
  abbrev pub seconds_from : ℕ → ℕ → List Visit → List ℕ
  seconds_from place free [] = []
  seconds_from place free (v ∷ vs) =
      (free + tau place (place_of v)) ∷ seconds_from (place_of v) (free + tau place (place_of v) + dwell) vs

  -- each visit can be reached, is reached in time, and finds its seats free
  abbrev pub ServesFrom : ℕ → ℕ → ℕ → List Visit → Type 0
  ServesFrom place free room vs = AreServed tau place room (seconds_from place free vs) vs

  -- the sum of the delays of the drop-offs
  abbrev pub delay_from : ℕ → ℕ → List Visit → ℕ
  delay_from place free vs = delay_at (seconds_from place free vs) vs
