use Rattle.std.proofs.Common.{ℕ, ◌<◌, ◌≤◌, length}
use Rattle.plan_rules.proofs.Common.{IsTaken, IsTriedBefore, IsApart, rank_of, row_of, IsSelection}
use Rattle.plan_rules.proofs.greedy_plan.take_rows.Given as goal

abbrev pub invariant-loop-rank : goal.invariant-loop-rank
invariant-loop-rank l = record {
  selection : IsSelection l.graph l.chosen l.served;
  earlier : (j i : ℕ) → j < length l.graph.rows → IsTaken l.graph l.chosen j → l.rank-index ≤ i → i < length l.ranks →
      rank_of l.graph j ≤ rank_of l.graph (row_of l.ranks i);
  settled : (i : ℕ) → i < l.rank-index
      → ((j : ℕ) → j < length l.graph.rows → IsTriedBefore l.graph j (row_of l.ranks i) → IsTaken l.graph l.chosen j → IsApart l.graph j (row_of l.ranks i))
      → IsTaken l.graph l.chosen (row_of l.ranks i);
}
