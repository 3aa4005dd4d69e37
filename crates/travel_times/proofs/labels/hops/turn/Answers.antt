use Rattle.std.proofs.Common.{◌<◌, length, get_or, refl, arith}
use Rattle.travel_times.proofs.labels.HopLemmas.{turn_more, none}
use Rattle.travel_times.proofs.labels.hops.turn.Goals as goal

pub loop-hop-preserved : goal.loop-hop-preserved
loop-hop-preserved c =
    let leaving = c.args.leaving.now in
    let i = c.loop-hop.hop-index in
    let inv = c.loop-hop.invariant in
    let inside : c.loop-hop.hop-index < length c.args.leaving.now = c.loop-hop-test.true in
    let end = c.requires.ends i none inside in
    rw c.in_ok-push.ensures
    (turn_more c.args.node leaving i c.args.hops.now.items c.loop-hop.hops.items (get_or leaving i none).to c.index_mut.result.now c.of.result inside refl
    c.of.ensures (omega (arith, end, inv.each)) c.index_mut.ensures.value inv)
