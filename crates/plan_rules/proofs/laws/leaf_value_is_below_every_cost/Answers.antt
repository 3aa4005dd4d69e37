use Rattle.plan_rules.proofs.lemmas.DualityLemmas.{leaf_value_le}
use Rattle.plan_rules.proofs.laws.leaf_value_is_below_every_cost.Goals as goal

pub returns : goal.returns
returns c = leaf_value_le
