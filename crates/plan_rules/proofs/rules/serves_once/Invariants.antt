use Rattle.plan_rules.proofs.Common.{IsServedOnce, MarksServed}
use Rattle.plan_rules.proofs.rules.serves_once.Given as goal

abbrev pub invariant-loop-choice : goal.invariant-loop-choice
invariant-loop-choice l = record {
  marked : MarksServed l.graph l.chosen l.choice-index l.served;
  once : IsServedOnce l.graph l.chosen l.choice-index;
}
