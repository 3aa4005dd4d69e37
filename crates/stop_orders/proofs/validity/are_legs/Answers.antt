use Rattle.std.proofs.Common.{refl, subst, All}
use Rattle.stop_orders.proofs.Common.{All-more, IsLeg}
use Rattle.std.proofs.lemmas.List.{take_all}
use Rattle.stop_orders.proofs.validity.are_legs.Goals as goal

pub loop-leg-preserved : goal.loop-leg-preserved
loop-leg-preserved c =
    let here = subst (λ leg. IsLeg c.args.points leg) c.leg-item.is (c.is_leg.ensures.0 c.if-not-is_leg.false) in
    All-more (IsLeg c.args.points) c.args.legs.now c.loop-leg.leg-index c.leg-item.result c.loop-leg-test.true c.loop-leg.invariant here

pub returns : goal.returns
returns c = (
  λ _. subst (λ xs. All (IsLeg c.args.points) xs) (take_all c.loop-leg.leg-index c.args.legs.now c.loop-leg-test.false) c.loop-leg.invariant,
  λ _.
      refl,
)
