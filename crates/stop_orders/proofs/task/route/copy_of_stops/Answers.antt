use Rattle.std.proofs.Common.{[], ◌∷◌, ◌++◌, get_or, sym, ap, ◌∙◌}
use Rattle.stop_orders.proofs.Common.{Pick}
use Rattle.std.proofs.lemmas.List.{take_more, take_all}
use Rattle.stop_orders.proofs.task.route.copy_of_stops.Goals as goal

pub loop-stop-preserved : goal.loop-stop-preserved
loop-stop-preserved c = c.push.ensures.items ∙ ap (λ xs. xs ++ get_or c.args.stops.now c.loop-stop.stop-index (Pick 0) ∷ []) c.loop-stop.invariant ∙
    sym (take_more c.args.stops.now c.loop-stop.stop-index (Pick 0) c.loop-stop-test.true)

pub returns : goal.returns
returns c = c.loop-stop.invariant ∙ take_all c.loop-stop.stop-index c.args.stops.now c.loop-stop-test.false
