use Rattle.dispatch_engine.proofs.Common.{rider_id}
use Rattle.dispatch_engine.proofs.outcome.ListLemmas.{map_pushed}
use Rattle.dispatch_engine.proofs.outcome.lines.ids_of.Goals as goal

pub loop-rider-preserved : goal.loop-rider-preserved
loop-rider-preserved c = map_pushed (rider_id c.args.settled.now) c.args.riders.now c.loop-rider.rider-index 0 _ _ _ c.loop-rider-test.true
    c.loop-rider.invariant c.push.ensures.items c.id_of.ensures
