use Rattle.std.specs.Prelude.{ℕ, List, All, Contains}
use Rattle.stop_orders.specs.declared.task.settled.Settled.{Settled}
use Rattle.stop_orders.specs.PairList.{ArePairs}
use Rattle.stop_orders.specs.task.Settled.{IsRrEdge}

-- the pairs are the edges between riders, in order, each once
pub record IsRrGraph (tau : ℕ → ℕ → ℕ) (settled : Settled) (pairs : List (ℕ × ℕ)) : Type 0 where
  pub right : All (λ p. IsRrEdge tau settled p.0 p.1) pairs
  pub order : ArePairs pairs
  pub whole : (a b : ℕ) → IsRrEdge tau settled a b → Contains pairs (a, b)
