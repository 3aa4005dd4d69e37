use Rattle.std.proofs.Common.{ℕ, ◌<◌}
use Rattle.plan_rules.proofs.Common.{IsGraphRow, row_at, graph_of}
use Rattle.plan_rules.proofs.row_order.first_out_of_range.Given as goal

abbrev pub invariant-loop-k : goal.invariant-loop-k
invariant-loop-k l = (j : ℕ) → j < l.k → IsGraphRow l.parts.vehicles l.parts.riders (row_at (graph_of l.parts) j)
