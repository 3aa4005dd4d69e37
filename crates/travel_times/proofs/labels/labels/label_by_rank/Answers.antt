use Rattle.std.proofs.Common.{◌≡◌, ◌+◌, true, length, map, refl, arith}
use Rattle.travel_times.proofs.Common.{turned}
use Rattle.travel_times.proofs.labels.Adding.{labels_within}
use Rattle.travel_times.proofs.labels.Building.{both_ways, labelled_more, none_labelled}
use Rattle.travel_times.proofs.labels.Turned.{among_directed}
use Rattle.travel_times.proofs.labels.labels.label_by_rank.Goals as goal

pub loop-node-init : goal.loop-node-init
loop-node-init g c = record {
  clean = c.requires.clean;
  labelled = λ arcs rank made. rw (c.requires.forward, c.requires.backward) (none_labelled arcs rank (length c.args.hops.now.ahead.now));
}

pub add_hub-requires-clause-own : goal.add_hub-requires-clause-own
add_hub-requires-clause-own g c =
    let (arcs, rank, made) = c.requires.made in
    let n = length c.args.hops.now.ahead.now in
    let so_far = c.loop-node.invariant.labelled arcs rank made in (
      so_far.reached.each,
      labels_within (map turned arcs) n rank c.loop-node.node-index c.loop-node.forward (among_directed true arcs n made.among)
          so_far.reached,
    )

pub add_hub-requires-clause-labels : goal.add_hub-requires-clause-labels
add_hub-requires-clause-labels g c =
    let (arcs, rank, made) = c.requires.made in
    let so_far = c.loop-node.invariant.labelled arcs rank made in
    (so_far.reaching.each, labels_within arcs (length c.args.hops.now.ahead.now) rank c.loop-node.node-index c.loop-node.backward made.among so_far.reaching)

pub add_hub-requires-in-loop-node-clause-hops : goal.add_hub-requires-in-loop-node-clause-hops
add_hub-requires-in-loop-node-clause-hops g c =
    let (arcs, rank, made) = c.requires.made in
    rw made.turned_round.each (map turned arcs, among_directed true arcs (length c.args.hops.now.ahead.now) made.among, made.turned_round)

pub add_hub-requires-in-loop-node-clause-own : goal.add_hub-requires-in-loop-node-clause-own
add_hub-requires-in-loop-node-clause-own g c =
    let (arcs, rank, made) = c.requires.made in
    let i = c.loop-node.node-index in
    let back = both_ways arcs rank c.args.order.now c.args.hops.now.ahead.now c.args.hops.now.back.now i _ c.loop-node.forward c.loop-node.backward
    c.add_hub.new.labels made c.loop-node-test.true refl (c.loop-node.invariant.labelled arcs rank made) c.in_ok-add_hub.ensures.added in
    rw made.turned_round.each (back.each, labels_within arcs (length c.args.hops.now.ahead.now) rank (i + 1) c.add_hub.new.labels made.among back)

pub add_hub-requires-in-loop-node-clause-labels : goal.add_hub-requires-in-loop-node-clause-labels
add_hub-requires-in-loop-node-clause-labels g c =
    let (arcs, rank, made) = c.requires.made in
    let n = length c.args.hops.now.ahead.now in
    let so_far = c.loop-node.invariant.labelled arcs rank made in
    rw made.turned_round.each (
      so_far.reached.each,
      labels_within (map turned arcs) n rank c.loop-node.node-index c.loop-node.forward
          (among_directed true arcs n made.among) so_far.reached,
    )

pub loop-node-preserved : goal.loop-node-preserved
loop-node-preserved g c =
    let (arcs, rank, made) = c.requires.made in
    record {
      clean = rw made.turned_round.each at c.in_ok-add_hub-2.ensures.clean;
      labelled = λ arcs rank made. labelled_more arcs rank c.args.order.now c.args.hops.now.ahead.now c.args.hops.now.back.now c.loop-node.node-index _
          c.loop-node.forward c.loop-node.backward c.add_hub-in-loop-node.new.labels c.add_hub.new.labels made c.loop-node-test.true refl
          (c.loop-node.invariant.labelled arcs rank made) c.in_ok-add_hub.ensures.added c.in_ok-add_hub-2.ensures.added;
    }

pub returns : goal.returns
returns g c = λ arcs rank made.
    let ended : c.loop-node.node-index ≡ length c.args.order.now = omega (arith, c.loop-node-test.false, c.loop-node.auto.node-index-end) in
    rw ended at (c.loop-node.invariant.labelled arcs rank made)
