-- The points of a batch are nodes that it names.
use Rattle.std.proofs.Common.{ℕ, List, get_or, All, Contains}
use Rattle.dispatch_engine.proofs.Common.{All-contains, Contains-get_or, Batch}
use Rattle.request_book.specs.Points.{ArePoints, named_nodes}

pub points_known : (b : Batch) (nodes points : List ℕ) → ArePoints b points → All (λ node. Contains nodes node) (named_nodes b) →
    All (λ node. Contains nodes node) points
points_known b nodes points are known k d below =
    All-contains (λ node. Contains nodes node) (named_nodes b) (get_or points k d) known ((are.named (get_or points k d)).0 (Contains-get_or points k d below))

pub named_known : (b : Batch) (nodes points : List ℕ) → ArePoints b points → All (λ node. Contains nodes node) points →
    All (λ node. Contains nodes node) (named_nodes b)
named_known b nodes points are known k d below =
    All-contains (λ node. Contains nodes node) points (get_or (named_nodes b) k d) known ((are.named (get_or (named_nodes b) k d)).1
    (Contains-get_or (named_nodes b) k d below))
