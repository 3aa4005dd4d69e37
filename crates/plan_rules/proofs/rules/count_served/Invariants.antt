use Rattle.std.proofs.Common.{◌≡◌, ◌*◌, ◌≤◌}
use Rattle.plan_rules.proofs.Common.{choice_at, sum_below, choice_size}
use Rattle.plan_rules.proofs.rules.count_served.Given as goal

abbrev pub invariant-loop-choice : goal.invariant-loop-choice
invariant-loop-choice l = record {
  value : l.served ≡ sum_below l.choice-index (λ v. choice_size l.graph (choice_at l.chosen v));
  small : l.served ≤ l.choice-index * 6;
}
