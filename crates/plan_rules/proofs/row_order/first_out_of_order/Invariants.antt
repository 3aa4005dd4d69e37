use Rattle.std.proofs.Common.{ℕ, suc, ◌<◌}
use Rattle.plan_rules.proofs.Common.{IsInOrder, graph_of}
use Rattle.plan_rules.proofs.row_order.first_out_of_order.Given as goal

abbrev pub invariant-loop-k : goal.invariant-loop-k
invariant-loop-k l = (j : ℕ) → suc j < l.k → IsInOrder (graph_of l.parts) j
