use Rattle.std.specs.Prelude.{◌≡◌, ℕ, zero, suc, List, [], ◌++◌, length, map, slice_index_or}
use Rattle.trip_graph.specs.declared.pairs.rv_edge.RvEdge.{RvEdge}
use Rattle.trip_graph.specs.declared.vehicle.trip_of.TripOf.{TripOf}

abbrev pub HasOneRider : TripOf → Type 0
HasOneRider row = length row.riders.items ≡ 1

-- the edge of a vehicle and the rider of a trip of one
abbrev pub single_edge : ℕ → TripOf → RvEdge
single_edge vehicle row = record { vehicle = vehicle; rider = slice_index_or row.riders.items 0 0 }

-- the edges of the first vehicles, whose trips of one rider these are
abbrev pub edges_upto : List (List TripOf) → ℕ → List RvEdge
edges_upto lists zero = []
edges_upto lists (suc v) = edges_upto lists v ++ map (single_edge v) (slice_index_or lists v [])
