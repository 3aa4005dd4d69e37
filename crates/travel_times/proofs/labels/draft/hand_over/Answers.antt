use Rattle.travel_times.proofs.labels.Handing.{hands_more}
use Rattle.travel_times.proofs.labels.draft.hand_over.Goals as goal

pub loop-node-preserved : goal.loop-node-preserved
loop-node-preserved c =
    let done = c.in_ok-hand_over_one.ensures in
    record {
      hands = hands_more c.args.start c.args.via.now c.args.taken.now c.loop-node.node-index c.args.seconds.now c.loop-node.seconds c.hand_over_one.new.seconds
          c.args.labels.now c.loop-node.labels c.hand_over_one.new.labels c.loop-node.invariant.hands c.hand_over_one.auto.seconds c.hand_over_one.auto.labels
          done.seconds done.gains done.others;
      hubs = done.hubs;
    }
