use Rattle.std.proofs.Common.{◌≡◌, length, ap, ◌∙◌}
use Rattle.std.proofs.lemmas.Result.{on_ok_weaker}
use Rattle.travel_times.proofs.labels.Building.{made_from}
use Rattle.travel_times.proofs.labels.labels.label_all.Goals as goal

pub label_by_rank-requires-clause-made : goal.label_by_rank-requires-clause-made
label_by_rank-requires-clause-made g c κs within =
    let roads = c.args.network.now in
    rw (c.deref.ensures.value, c.deref-2.ensures.value) (
      roads.arcs,
      c.requires.ranks.0,
      made_from roads.arcs c.args.order.now c.requires.ranks.0 c.in_ok-ahead.ahead.items c.in_ok-back.back.items
          (length roads.nodes) c.node_count.ensures.kept.arcs c.in_ok-ahead.ensures c.in_ok-back.ensures c.requires.ranks.1,
    )

pub returns : goal.returns
returns g c =
    let roads = c.args.network.now in
    let each : length c.deref.result.now ≡ length c.args.network.now.nodes = ap length c.deref.ensures.value ∙ c.in_ok-ahead.ensures.each in
    on_ok_weaker c.label_by_rank.result (λ labelled rank ranks. rw each at (labelled roads.arcs rank (rw (c.deref.ensures.value, c.deref-2.ensures.value)
    (made_from roads.arcs c.args.order.now rank c.in_ok-ahead.ahead.items c.in_ok-back.back.items (length roads.nodes) c.node_count.ensures.kept.arcs
    c.in_ok-ahead.ensures c.in_ok-back.ensures ranks)))) c.label_by_rank.ensures
