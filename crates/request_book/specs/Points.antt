use Rattle.std.specs.Prelude.{ℕ, List, ◌++◌, ◌∷◌, [], ◌↔◌}
use Rattle.std.specs.List.{Contains, flat_map}
use Rattle.std.specs.List.Sorted.{IsStrictlyIncreasing}
use Rattle.request_book.specs.values.Batch.{Batch}

-- the nodes that a snapshot names, as they come: each vehicle's, with its passengers' origins and destinations, then the riders'
abbrev pub named_nodes : Batch → List ℕ
named_nodes b =
    flat_map (λ v. v.node ∷ flat_map (λ p. p.origin ∷ p.destination ∷ []) v.aboard.items) b.vehicles
    ++ flat_map (λ r. r.origin ∷ r.destination ∷ []) b.riders

-- the distinct nodes that a snapshot names, by rising name
pub record ArePoints (b : Batch) (nodes : List ℕ) : Type 0 where
  pub rise : IsStrictlyIncreasing nodes
  pub named : (node : ℕ) → Contains nodes node ↔ Contains (named_nodes b) node
