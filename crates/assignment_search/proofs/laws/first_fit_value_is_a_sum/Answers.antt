use Rattle.assignment_search.proofs.lemmas.FirstFitValueLemmas.{first_fit_value_is}
use Rattle.assignment_search.proofs.laws.first_fit_value_is_a_sum.Goals as goal

pub returns : goal.returns
returns c = first_fit_value_is
