use Rattle.std.proofs.Common.{◌≤◌, length, arith}
use Rattle.travel_times.proofs.search.ArcLemmas.{AreCopied-push}
use Rattle.travel_times.proofs.lemmas.search.SearchLemmas.{hops_among}
use Rattle.travel_times.proofs.search.arcs.Arcs.of.Goals as goal

pub push_hops-requires : goal.push_hops-requires
push_hops-requires c =
    let roads = c.args.network.now in
    let kept = c.loop-node.invariant.1 in
    rw c.arcs_from.ensures (λ k d inside.
    let hop = hops_among roads.arcs (length roads.nodes) c.loop-node.node kept.arcs k d inside in
    let few : length c.args.network.now.nodes ≤ 100000 = kept.few_nodes in
    omega (arith, hop.0, few))

pub loop-node-preserved : goal.loop-node-preserved
loop-node-preserved c =
    let ends = c.loop-node.ends.items in
    let hops = c.loop-node.hops.items in (
      rw (c.in_ok-push.ensures.items, c.len.ensures, c.push_hops.new.hops.ok.0, c.in_ok-push_hops.ensures, c.arcs_from.ensures)
          (AreCopied-push c.args.network.now.arcs c.loop-node.node ends hops c.loop-node.invariant.0),
      c.loop-node.invariant.1,
    )
