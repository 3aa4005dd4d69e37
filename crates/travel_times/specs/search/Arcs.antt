use Rattle.std.specs.Prelude.{◌≡◌, ℕ, ◌<◌, List, length, map, slice_index, slice_range}
use Rattle.road_network.specs.declared.arc.Arc.{Arc}
use Rattle.road_network.specs.declared.hop.Hop.{Hop}
use Rattle.road_network.specs.Roads.{hop_of, leaving}
use Rattle.road_network.specs.Storage.{start_at}

-- the hops of the first so many nodes lie one after the other, and each node's are the arcs that leave it
pub record AreArcsOf (arcs : List Arc) (count : ℕ) (ends : List ℕ) (hops : List Hop) : Type 0 where
  pub each : length ends ≡ count
  pub placed : (node : ℕ) → node < count → slice_range hops (start_at ends node) (slice_index ends node) ≡ map hop_of (leaving node arcs)
