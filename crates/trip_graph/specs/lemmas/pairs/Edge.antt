use Rattle.std.specs.Prelude.{ℕ}
use Rattle.trip_graph.specs.declared.pairs.rv_edge.RvEdge.{RvEdge}

-- the two numbers of an edge
abbrev pub pair_of : RvEdge → ℕ × ℕ
pair_of edge = (edge.vehicle, edge.rider)

-- what is read where there is no edge
abbrev pub no_edge : RvEdge
no_edge = record { vehicle = 0; rider = 0 }
