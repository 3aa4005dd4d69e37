use Rattle.std.proofs.Common.{◌≡◌, ℕ, ◌<◌, ◌≤◌}
use Rattle.plan_rules.proofs.Common.{row_vehicle, graph_of}
use Rattle.plan_rules.proofs.row_index.end_of_vehicle.Given as goal

abbrev pub invariant-loop-k : goal.invariant-loop-k
invariant-loop-k l = (j : ℕ) → l.row ≤ j → j < l.k → row_vehicle (graph_of l.parts) j ≡ l.vehicle
