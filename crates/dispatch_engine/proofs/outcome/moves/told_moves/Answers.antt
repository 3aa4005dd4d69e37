use Rattle.std.proofs.Common.{◌∙◌, get_or}
use Rattle.dispatch_engine.proofs.Common.{move_line, travel_time}
use Rattle.dispatch_engine.proofs.outcome.ListLemmas.{map_pushed, move_of_pair}
use Rattle.dispatch_engine.proofs.outcome.moves.told_moves.Goals as goal

pub loop-place-preserved : goal.loop-place-preserved
loop-place-preserved c =
    let tau = travel_time c.args.times.now in let settled = c.args.settled.now in let vehicles = c.args.vehicles.now in let riders = c.args.riders.now in
    let i = c.loop-place.place-index in let within = c.requires.pairs i (0, 0) c.loop-place-test.true in
    map_pushed (move_line tau settled vehicles riders) c.args.pairs.now i (0, 0) _ _ _ c.loop-place-test.true c.loop-place.invariant c.in_ok-push.ensures.items
    (c.move_of.ensures ∙ move_of_pair tau settled vehicles riders (get_or c.args.pairs.now i (0, 0)).0 (get_or c.args.pairs.now i (0, 0)).1 within.0 within.1)
