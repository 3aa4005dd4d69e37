use Rattle.std.proofs.Common.{◌∙◌, subst, sym}
use Rattle.plan_rules.proofs.Common.{IsLawful}
use Rattle.plan_rules.proofs.rules.held_plan.Goals as goal

pub returns-clause-lawful : goal.returns-clause-lawful
returns-clause-lawful c =
    subst (IsLawful c.args.graph.now) (sym (c.of.ensures ∙ c.in_ok-from_slice.ensures.items ∙ c.held.ensures.value)) c.held.ensures.good.held
