use Rattle.std.proofs.Common.{List, length, ap, arith}
use Rattle.road_network.proofs.Common.{Arc, Roads}
use Rattle.road_network.proofs.Sorted.{ArePacked-sorted, stored_arcs-sorted}
use Rattle.road_network.proofs.network.Network.of.Goals as goal

pub invariant_of-result : goal.invariant_of-result
invariant_of-result c =
    rw c.in_ok-nodes.ensures (ArePacked-sorted c.args.names.now c.args.arcs.now c.in_ok-ends.ends.items c.in_ok-ends.hops.items c.requires.few_nodes
    c.requires.few_arcs c.requires.names c.requires.among (omega (arith, c.in_ok-ends.ensures.length)) (omega (arith, c.in_ok-ends.ensures.hops))
    c.in_ok-ends.ensures.ends c.in_ok-ends.ensures.among)

pub returns : goal.returns
returns c =
    let P : List Arc → Roads = λ arcs. record { nodes = c.args.names.now; arcs = arcs } in
    rw c.in_ok-nodes.ensures (ap P (stored_arcs-sorted (length c.args.names.now) c.args.arcs.now c.in_ok-ends.ends.items c.in_ok-ends.hops.items
    c.in_ok-ends.ensures.ends c.in_ok-ends.ensures.placed))
