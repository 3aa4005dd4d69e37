use Rattle.report_audit.proofs.lemmas.points.OnePlanLemmas.{one_plan_of_good}
use Rattle.report_audit.proofs.points.plan_laws.a_good_outcome_has_one_plan.Goals as goal

pub returns : goal.returns
returns c = one_plan_of_good
