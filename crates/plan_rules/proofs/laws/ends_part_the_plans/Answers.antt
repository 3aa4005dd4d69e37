use Rattle.plan_rules.proofs.lemmas.SearchTreeLemmas.{plan_at_one_end}
use Rattle.plan_rules.proofs.laws.ends_part_the_plans.Goals as goal

pub returns : goal.returns
returns c = plan_at_one_end
