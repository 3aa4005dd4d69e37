use Rattle.std.proofs.Common.{◌≡◌, ◌*◌, ◌≤◌}
use Rattle.plan_rules.proofs.Common.{choice_at, choice_cost, sum_below}
use Rattle.plan_rules.proofs.rules.cost_of_rows.Given as goal

abbrev pub invariant-loop-choice : goal.invariant-loop-choice
invariant-loop-choice l = record {
  value : l.cost ≡ sum_below l.choice-index (λ v. choice_cost l.graph (choice_at l.chosen v));
  small : l.cost ≤ l.choice-index * 1000000000;
}
