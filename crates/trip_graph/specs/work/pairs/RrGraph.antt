use Rattle.std.specs.Prelude.{◌≡◌, ℕ, List, [], ◌∷◌}
use Rattle.stop_orders.specs.declared.task.leg.Leg.{Leg}
use Rattle.stop_orders.specs.declared.task.task.Task.{Task}
use Rattle.stop_orders.specs.declared.task.settled.Settled.{Settled}
use Rattle.stop_orders.specs.task.Settled.{IsRrEdge, pair_task, rider_at}
use Rattle.trip_graph.specs.work.pairs.Listing.{ListsBefore}

-- the edges between riders that stand before a pair
abbrev pub IsRrGraphUpTo : (ℕ → ℕ → ℕ) → Settled → ℕ → ℕ → List (ℕ × ℕ) → Type 0
IsRrGraphUpTo tau settled first second pairs = ListsBefore (ℕ × ℕ) (λ p. p) (λ a b. (a, b)) (0, 0) (IsRrEdge tau settled) first second pairs

-- the task of a rider, who may have another one behind, and an empty vehicle somewhere
pub record IsTaskOfFirst (settled : Settled) (a : ℕ) (task : Task) : Type 0 where
  pub rest : List Leg
  pub is : task ≡ record {
    start = task.start;
    ready = settled.now;
    dwell = settled.dwell;
    seats = settled.most_seats;
    aboard = record { items = [] };
    riders = record { items = (rider_at settled a).leg ∷ rest };
  }

-- the task of two riders and an empty vehicle somewhere
abbrev pub IsTaskOfPair : Settled → ℕ → ℕ → Task → Type 0
IsTaskOfPair settled a b task = task ≡ pair_task settled task.start a b
