use Rattle.std.proofs.Common.{refl, subst, arith}
use Rattle.plan_rules.proofs.Common.{IsPlan, IsServedOnce}
use Rattle.plan_rules.proofs.lemmas.PlanLemmas.{lawful_from}
use Rattle.plan_rules.proofs.lemmas.ServedLemmas.{served_at_first}
use Rattle.plan_rules.proofs.rules.is_lawful.Goals as goal

pub serves_once-requires-clause-clear : goal.serves_once-requires-clause-clear
serves_once-requires-clause-clear c = served_at_first c.args.graph.now c.chosen-chosen.result.now 1000
    (omega (arith, c.rider_count-riders.ensures.within, c.rider_count-riders.ensures.value))

pub returns : goal.returns
returns c =
    let g = c.args.graph.now in
    let same = c.chosen-chosen.ensures in
    let plan : IsPlan g c.args.plan.now = subst (IsPlan g) same (c.is_plan.ensures.0 c.if-not-is_plan.false) in
    let once : IsServedOnce g c.args.plan.now g.vehicles = subst (λ p. IsServedOnce g p g.vehicles) same
    (c.serves_once.ensures.value.0 c.if-not-serves_once.false) in (
      λ _. lawful_from g c.args.plan.now c.rider_count-riders.ensures.good plan (λ r _. once r)
          (λ r l must. c.loop-rider.invariant r (omega (arith, l, c.rider_count-riders.ensures.value, c.loop-rider-test.false)) must),
      λ _. refl,
    )
