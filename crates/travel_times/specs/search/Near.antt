-- Travel times from a node, right as far as some seconds.
use Rattle.std.specs.Prelude.{ℕ, ◌<◌, ◌≤◌, Option, None, Some, List, slice_index}
use Rattle.pool_base.specs.TravelTime.{never}
use Rattle.road_network.specs.declared.arc.Arc.{Arc}
use Rattle.road_network.specs.Walk.{IsWalk, IsTimeBetween, walk_seconds}

-- how far a search goes: as far as its goal, or else as far as any time
abbrev pub reach : Option ℕ → List ℕ → ℕ
reach (Some goal) times = slice_index times goal
reach None times = never

-- whoever is no further than so many seconds has its travel time, and no walk to anyone else is as short as that
pub record AreTimesUpTo (arcs : List Arc) (n start most : ℕ) (times : List ℕ) : Type 0 where
  pub near : (node : ℕ) → node < n → slice_index times node ≤ most → IsTimeBetween arcs start node (slice_index times node)
  pub far : (node : ℕ) → node < n → most < slice_index times node → (walk : List Arc) → IsWalk arcs start walk node → most < walk_seconds walk
  pub bounded : (node : ℕ) → node < n → slice_index times node ≤ never
