use Rattle.std.proofs.Common.{◌≡◌, length, ap, ◌∙◌, arith}
use Rattle.travel_times.proofs.Common.{length-map, length_push, hop_of, leaving}
use Rattle.travel_times.proofs.labels.Degrees.{leaving_few}
use Rattle.travel_times.proofs.labels.Lists.{push_more}
use Rattle.travel_times.proofs.labels.rank.leaving_counts.Goals as goal

pub overflow_cast-arcs_from : goal.overflow_cast-arcs_from
overflow_cast-arcs_from c =
    let arcs = c.args.network.now.arcs in
    omega (
      arith,
      leaving_few arcs c.loop-node.node,
      c.loop-node.invariant.network.few_arcs,
      ap length c.arcs_from.ensures ∙
          length-map (leaving c.loop-node.node arcs) hop_of,
    )

pub loop-node-preserved : goal.loop-node-preserved
loop-node-preserved c =
    let arcs = c.args.network.now.arcs in
    let i = c.loop-node.node in
    let inv = c.loop-node.invariant in
    let here : length c.arcs_from.result.now ≡ length (leaving c.loop-node.node c.args.network.now.arcs) = ap length c.arcs_from.ensures ∙
    length-map (leaving i arcs) hop_of in
    rw c.in_ok-push.ensures.items (record {
      network = inv.network;
      each = omega (arith, length_push c.loop-node.counts.items (length c.arcs_from.result.now), inv.each);
      counted = push_more (λ k count. count ≡ length (leaving k arcs)) c.loop-node.counts.items i (length c.arcs_from.result.now) inv.each inv.counted here;
    })
