use Rattle.std.proofs.Common.{length, arith}
use Rattle.road_network.proofs.Stored.{length-stored_arcs, All-stored_arcs}
use Rattle.road_network.proofs.network.Network.node_count.Goals as goal

pub returns-clause-kept : goal.returns-clause-kept
returns-clause-kept c =
    let kept = c.self.invariant in
    let long = length-stored_arcs (length c.self.inside.nodes) c.self.inside.ends.items c.self.inside.hops.items kept.rising kept.within in
    rw (← c.self.view_is) (record {
      few_nodes = kept.few_nodes;
      few_arcs = omega (arith, long, kept.whole, kept.few_hops);
      distinct = c.len.ensures.distinct;
      arcs = All-stored_arcs (length c.self.inside.nodes) (length c.self.inside.nodes) c.self.inside.ends.items c.self.inside.hops.items (omega arith)
          kept.among;
    })
