use Rattle.std.proofs.Common.{◌≡◌, ℕ, ◌<◌, vec_len, get_or}
use Rattle.plan_rules.proofs.Common.{parts_of}
use Rattle.plan_rules.proofs.greedy_plan.ranks_of.Given as goal

abbrev pub invariant-loop-k : goal.invariant-loop-k
invariant-loop-k l = record {
  len : vec_len l.ranks ≡ l.k;
  ranks : (j : ℕ) → j < l.k → (d : ℕ × ℕ × ℕ) → get_or l.ranks.items j d ≡ parts_of l.graph j;
}
