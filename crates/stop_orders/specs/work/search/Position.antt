use Rattle.std.specs.Prelude.{ℕ, ◌+◌, ◌<◌, ◌≤◌, List}
use Rattle.pool_base.specs.TravelTime.{never}
use Rattle.stop_orders.specs.declared.search.position.Position.{Position}
use Rattle.stop_orders.specs.declared.task.visit.Visit.{Visit}
use Rattle.stop_orders.specs.declared.task.task.Task.{Task}
use Rattle.stop_orders.specs.task.Visit.{place_of, latest_of, boarding_of, room_after, ServesFrom}
use Rattle.stop_orders.specs.lemmas.task.Named.{free_seats}

-- the position of the vehicle before its first stop
abbrev pub first_position : Task → Position
first_position task = record { place = task.start; free = task.ready; room = free_seats task }

-- a visit can be reached in time, and finds its seats
abbrev pub CanVisitFrom : (ℕ → ℕ → ℕ) → Position → Visit → Type 0
CanVisitFrom tau p v =
    (tau p.place (place_of v) < never) × (p.free + tau p.place (place_of v) ≤ latest_of v) × (boarding_of v ≤ p.room)

-- the position after a visit
abbrev pub position_after : (ℕ → ℕ → ℕ) → ℕ → Position → Visit → Position
position_after tau dwell p v = record {
  place = place_of v;
  free = p.free + tau p.place (place_of v) + dwell;
  room = room_after v p.room;
}

-- the visits can be served from a position
abbrev pub ServesAt : (ℕ → ℕ → ℕ) → ℕ → Position → List Visit → Type 0
ServesAt tau dwell p vs = ServesFrom tau dwell p.place p.free p.room vs
