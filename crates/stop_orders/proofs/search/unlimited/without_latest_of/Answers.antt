use Rattle.std.proofs.Common.{map, ap, ◌∙◌, [], ◌∷◌, ◌++◌, ◌<◌, length, take, length-take, sym, arith}
use Rattle.stop_orders.proofs.Common.{without_latest, length-map}
use Rattle.std.proofs.lemmas.List.{take_all, map_more}
use Rattle.stop_orders.proofs.search.unlimited.without_latest_of.Goals as goal

pub returns : goal.returns
returns c = c.loop-leg.invariant ∙ ap (λ xs. map without_latest xs) (take_all c.loop-leg.leg-index c.args.legs.now c.loop-leg-test.false)

pub loop-leg-preserved : goal.loop-leg-preserved
loop-leg-preserved c =
    let i = c.loop-leg.leg-index in
    let legs = c.args.legs.now in
    let leg = c.leg-item.result in
    c.push.ensures.items ∙ ap (λ xs. xs ++ without_latest leg ∷ []) c.loop-leg.invariant ∙
    ap (λ l. map without_latest (take i legs) ++ without_latest l ∷ []) c.leg-item.is ∙ sym (map_more without_latest legs i leg c.loop-leg-test.true)

pub push-requires : goal.push-requires
push-requires c =
    let so_far = ap length c.loop-leg.invariant ∙ length-map (take c.loop-leg.leg-index c.args.legs.now) without_latest in
    let room : length c.loop-leg.unlimited.items < 10 = omega (
      arith,
      so_far,
      length-take c.loop-leg.leg-index c.args.legs.now,
      c.loop-leg-test.true,
      c.requires,
    ) in
    (omega arith, room)
