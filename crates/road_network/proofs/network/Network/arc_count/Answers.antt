use Rattle.std.proofs.Common.{length, arith}
use Rattle.road_network.proofs.Stored.{length-stored_arcs}
use Rattle.road_network.proofs.network.Network.arc_count.Goals as goal

pub returns-clause-count : goal.returns-clause-count
returns-clause-count c =
    let kept = c.self.invariant in
    let long = length-stored_arcs (length c.self.inside.nodes) c.self.inside.ends.items c.self.inside.hops.items kept.rising kept.within in
    rw (← c.self.view_is) (omega (arith, c.len.ensures, long, kept.whole))
