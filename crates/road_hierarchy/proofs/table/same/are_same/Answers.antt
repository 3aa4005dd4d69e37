use Rattle.std.proofs.Common.{◌≡◌, ◌<◌, ℕ, All, length, map, subst, arith}
use Rattle.road_network.specs.Roads.{IsArcAmong, hop_of, leaving}
use Rattle.road_hierarchy.proofs.table.Hops.{time_carried}
use Rattle.road_hierarchy.proofs.table.same.are_same.Goals as goal

pub returns-clause-times : goal.returns-clause-times
returns-clause-times c = λ _ start to seconds.
    let as_many : length c.args.a.now.nodes ≡ length c.args.b.now.nodes = omega
    (arith, c.if-node_count.false, c.node_count.ensures.count, c.node_count-2.ensures.count) in
    let among : All (IsArcAmong (length c.args.b.now.nodes)) c.args.a.now.arcs = subst (λ n. All (IsArcAmong n) c.args.a.now.arcs) as_many
    c.keeps.ensures.arcs in
    let same : (node : ℕ) → node < length c.args.b.now.nodes → map hop_of (leaving node c.args.a.now.arcs) ≡ map hop_of
    (leaving node c.args.b.now.arcs) = λ node lt. c.loop-node.invariant node (omega (arith, lt)) in
    time_carried c.args.a.now.arcs c.args.b.now.arcs (length c.args.b.now.nodes) among c.keeps-2.ensures.arcs same start to seconds
