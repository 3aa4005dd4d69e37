use Rattle.plan_rules.proofs.lemmas.SearchTreeLemmas.{lawful_at_no_dead_end}
use Rattle.plan_rules.proofs.laws.dead_ends_hold_no_lawful_plan.Goals as goal

pub returns : goal.returns
returns c = lawful_at_no_dead_end
