use Rattle.plan_rules.proofs.lemmas.SearchTreeLemmas.{value_bounds}
use Rattle.plan_rules.proofs.laws.tree_value_is_a_bound.Goals as goal

pub returns : goal.returns
returns c = value_bounds
