use Rattle.std.specs.Prelude.{ℕ, ◌+◌, ◌<◌, List, [], ◌∷◌, All, Contains, length, slice_index_or}
use Rattle.stop_orders.specs.declared.task.settled.Settled.{Settled}
use Rattle.stop_orders.specs.PairList.{IsBefore}
use Rattle.stop_orders.specs.task.Settled.{CanServe}
use Rattle.trip_graph.specs.declared.pairs.rv_edge.RvEdge.{RvEdge}

-- the edges are those between vehicles and riders, by vehicle, then rider, each once
pub record IsRvGraph (tau : ℕ → ℕ → ℕ) (settled : Settled) (edges : List RvEdge) : Type 0 where
  pub right : All (λ e. CanServe 1 tau settled e.vehicle (e.rider ∷ [])) edges
  pub rising : (k : ℕ) → k + 1 < length edges
      → let e = slice_index_or edges k (record { vehicle = 0; rider = 0 }) in let f = slice_index_or edges (k + 1) (record { vehicle = 0; rider = 0 }) in IsBefore (e.vehicle, e.rider) (f.vehicle, f.rider)
  pub whole : (v r : ℕ) → CanServe 1 tau settled v (r ∷ []) → Contains edges (record { vehicle = v; rider = r })
