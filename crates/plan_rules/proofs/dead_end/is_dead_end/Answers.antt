use Rattle.std.proofs.Common.{refl}
use Rattle.plan_rules.proofs.Common.{false≢true, usable_of}
use Rattle.plan_rules.proofs.lemmas.ClashLemmas.{dead_by_clash, dead_where_stranded}
use Rattle.plan_rules.proofs.dead_end.is_dead_end.Goals as goal

pub returns-then-has_clash-clause-value : goal.returns-then-has_clash-clause-value
returns-then-has_clash-clause-value c = (λ _. dead_by_clash c.args.graph.now (usable_of c.args.allowed.now) (c.if-has_clash.ensures.value.0 refl), λ _. refl)

pub returns-clause-value : goal.returns-clause-value
returns-clause-value c =
    dead_where_stranded c.args.graph.now (usable_of c.args.allowed.now) c.has_stranded.result (λ clash. false≢true (c.if-has_clash.ensures.value.1 clash))
    c.has_stranded.ensures
