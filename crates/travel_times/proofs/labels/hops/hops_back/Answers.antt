use Rattle.std.proofs.Common.{◌≡◌, [], length, arith}
use Rattle.travel_times.proofs.lemmas.search.SearchLemmas.{hops_among}
use Rattle.travel_times.proofs.labels.HopLemmas.{turned_more, all_turned}
use Rattle.travel_times.proofs.labels.hops.hops_back.Goals as goal

pub turn-requires-clause-ends : goal.turn-requires-clause-ends
turn-requires-clause-ends c =
    let roads = c.args.network.now in
    rw (c.arcs_from.ensures, c.loop-node.invariant.turned.each)
    (λ k d h. (hops_among roads.arcs (length roads.nodes) c.loop-node.node c.loop-node.invariant.network.arcs k d h).0)

pub loop-node-preserved : goal.loop-node-preserved
loop-node-preserved c =
    let roads = c.args.network.now in
    record {
      network = c.loop-node.invariant.network;
      turned = turned_more roads.arcs (length roads.nodes) c.loop-node.node [] c.loop-node.hops.items c.turn.new.hops.items c.arcs_from.result.now
          c.arcs_from.ensures c.loop-node.invariant.turned c.in_ok-turn.ensures;
    }

pub returns : goal.returns
returns c =
    let roads = c.args.network.now in
    let ended : c.loop-node.node ≡ length c.args.network.now.nodes = omega (
      arith,
      c.loop-node-test.false,
      c.loop-node.auto.node-end,
      c.node_count-nodes.ensures.count,
    ) in
    all_turned roads.arcs (length roads.nodes) c.loop-node.hops.items c.loop-node.invariant.network.arcs (rw ended at c.loop-node.invariant.turned)
