use Rattle.std.proofs.Common.{◌≡◌, length, ap, arith}
use Rattle.travel_times.proofs.labels.Building.{held, order_apart, ranks_are}
use Rattle.travel_times.proofs.labels.Final.{labels_made, labels_rise_by_rank}
use Rattle.travel_times.proofs.labels.labels.Labels.build_watched.Goals as goal

pub ranks_of-requires-clause-few : goal.ranks_of-requires-clause-few
ranks_of-requires-clause-few g c = rw c.deref.ensures.value (omega (arith, c.in_ok-order.ensures.each, c.node_count-nodes.ensures.kept.few_nodes))

pub ranks_of-requires-clause-apart : goal.ranks_of-requires-clause-apart
ranks_of-requires-clause-apart g c =
    let roads = c.args.network.now in
    rw c.deref.ensures.value (order_apart roads.arcs (length roads.nodes) c.in_ok-order.order.items c.in_ok-order.ensures)

pub label_all-requires-clause-ranks : goal.label_all-requires-clause-ranks
label_all-requires-clause-ranks g c κs within =
    let ranked = rw (c.deref.ensures.value, c.node_count-nodes.ensures.count) at c.in_ok-rank.ensures in
    rw c.deref-2.ensures.value (
      c.in_ok-rank.rank.items,
      ranks_are c.args.network.now c.in_ok-order.order.items c.in_ok-rank.rank.items
          c.node_count-nodes.ensures.kept c.in_ok-order.ensures ranked,
    )

pub invariant_of-result : goal.invariant_of-result
invariant_of-result g c =
    let roads = c.args.network.now in
    let order = c.in_ok-order.order.items in
    let rank = c.in_ok-rank.rank.items in
    let forward_each : length c.label_all.new.forward ≡ c.in_ok-forward.forward.len = omega
    (arith, c.label_all.auto.forward, ap length c.deref_mut.ensures.value, c.in_ok-forward.forward.ok.0) in
    let backward_each : length c.label_all.new.backward ≡ c.in_ok-backward.backward.len = omega
    (arith, c.label_all.auto.backward, ap length c.deref_mut-2.ensures.value, c.in_ok-backward.backward.ok.0) in
    let ranks = ranks_are roads order rank c.node_count-nodes.ensures.kept c.in_ok-order.ensures
    (rw (c.deref.ensures.value, c.node_count-nodes.ensures.count) at c.in_ok-rank.ensures) in
    rw (
      held c.in_ok-forward.forward.len c.label_all.new.forward c.in_ok-forward.forward.items forward_each,
      held c.in_ok-backward.backward.len
          c.label_all.new.backward c.in_ok-backward.backward.items backward_each,
    )
    (labels_rise_by_rank roads order rank c.label_all.new.forward c.label_all.new.backward c.node_count-nodes.ensures.kept ranks
    (rw c.deref-2.ensures.value at c.in_ok-label_all.ensures rank ranks))

pub returns : goal.returns
returns g c =
    let roads = c.args.network.now in
    let order = c.in_ok-order.order.items in
    let rank = c.in_ok-rank.rank.items in
    let forward_each : length c.label_all.new.forward ≡ c.in_ok-forward.forward.len = omega
    (arith, c.label_all.auto.forward, ap length c.deref_mut.ensures.value, c.in_ok-forward.forward.ok.0) in
    let backward_each : length c.label_all.new.backward ≡ c.in_ok-backward.backward.len = omega
    (arith, c.label_all.auto.backward, ap length c.deref_mut-2.ensures.value, c.in_ok-backward.backward.ok.0) in
    let ranks = ranks_are roads order rank c.node_count-nodes.ensures.kept c.in_ok-order.ensures
    (rw (c.deref.ensures.value, c.node_count-nodes.ensures.count) at c.in_ok-rank.ensures) in
    rw (
      held c.in_ok-forward.forward.len c.label_all.new.forward c.in_ok-forward.forward.items forward_each,
      held c.in_ok-backward.backward.len
          c.label_all.new.backward c.in_ok-backward.backward.items backward_each,
    )
    (labels_made roads order rank c.label_all.new.forward c.label_all.new.backward c.node_count-nodes.ensures.kept c.in_ok-order.ensures ranks
    (rw c.deref-2.ensures.value at c.in_ok-label_all.ensures rank ranks))

pub label_all-requires-clause-order : goal.label_all-requires-clause-order
label_all-requires-clause-order g c κs within = rw c.deref-2.ensures.value c.in_ok-order.ensures
