use Rattle.std.specs.Prelude.{ℕ, List}
use Rattle.stop_orders.specs.declared.task.settled.Settled.{Settled}
use Rattle.stop_orders.specs.lemmas.task.Named.{IsRvEdge}
use Rattle.trip_graph.specs.declared.pairs.rv_edge.RvEdge.{RvEdge}
use Rattle.trip_graph.specs.lemmas.pairs.Edge.{no_edge, pair_of}
use Rattle.trip_graph.specs.work.pairs.Listing.{ListsBefore}

-- the edges that stand before a vehicle and a rider
abbrev pub IsRvGraphUpTo : (ℕ → ℕ → ℕ) → Settled → ℕ → ℕ → List RvEdge → Type 0
IsRvGraphUpTo tau settled vehicle rider edges = ListsBefore RvEdge pair_of (λ v r. record { vehicle = v; rider = r }) no_edge (IsRvEdge tau settled) vehicle rider edges
