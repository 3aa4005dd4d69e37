use Rattle.std.proofs.Common.{[], ◌∷◌, ◌++◌, sym, ap, ◌∙◌, take}
use Rattle.std.proofs.lemmas.List.{take_more, take_all}
use Rattle.stop_orders.proofs.task.trip.copy_of.Goals as goal

pub returns : goal.returns
returns c = c.loop-leg.invariant ∙ take_all c.loop-leg.leg-index c.args.legs.now c.loop-leg-test.false

pub loop-leg-preserved : goal.loop-leg-preserved
loop-leg-preserved c =
    let i = c.loop-leg.leg-index in
    let leg = c.leg-item.result in
    c.push.ensures.items ∙ ap (λ xs. xs ++ leg ∷ []) c.loop-leg.invariant ∙ ap (λ l. take i c.args.legs.now ++ l ∷ []) c.leg-item.is ∙
    sym (take_more c.args.legs.now i leg c.loop-leg-test.true)
