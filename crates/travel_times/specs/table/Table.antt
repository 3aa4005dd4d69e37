use Rattle.std.specs.Prelude.{◌≡◌, ℕ, ◌<◌, List, length, slice_index}
use Rattle.pool_base.specs.Times.{point_count, travel_time}
use Rattle.pool_base.specs.declared.times.Times.{Times}
use Rattle.road_network.specs.declared.arc.Arc.{Arc}
use Rattle.road_network.specs.Walk.{IsTimeBetween}

-- the table has these places as its points, and its cells are the travel times between them
pub record AreTravelTimes (arcs : List Arc) (places : List ℕ) (times : Times) : Type 0 where
  pub points : point_count times ≡ length places
  pub cells : (i j : ℕ) → i < length places → j < length places → IsTimeBetween arcs (slice_index places i) (slice_index places j) (travel_time times i j)
