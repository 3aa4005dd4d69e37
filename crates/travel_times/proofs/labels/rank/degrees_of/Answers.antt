use Rattle.std.proofs.Common.{◌≡◌, ◌<◌, length, drop, ap, ◌∙◌, arith}
use Rattle.travel_times.proofs.Common.{length-map, get_or_default, hop_of, leaving, take_at}
use Rattle.travel_times.proofs.lemmas.search.SearchLemmas.{hops_among}
use Rattle.travel_times.proofs.labels.Degrees.{leaving_few, reaching_few, reaching_none, reaching_more, degree_is}
use Rattle.travel_times.proofs.labels.rank.degrees_of.Goals as goal

pub loop-node-init : goal.loop-node-init
loop-node-init c = record {
  network = c.node_count-nodes.ensures.kept;
  each = c.in_ok-degrees.ensures.0;
  counted = λ node h. let none = reaching_none c.args.network.now.arcs node in c.in_ok-degrees.ensures.1 node h ∙ omega (arith, none);
}

pub count_reaching-requires-clause-ends : goal.count_reaching-requires-clause-ends
count_reaching-requires-clause-ends c =
    let roads = c.args.network.now in
    rw (c.deref_mut.ensures.value, c.loop-node.invariant.each, c.arcs_from.ensures)
    (λ k d h. (hops_among roads.arcs (length roads.nodes) c.loop-node.node c.loop-node.invariant.network.arcs k d h).0)

pub count_reaching-requires-clause-few : goal.count_reaching-requires-clause-few
count_reaching-requires-clause-few c =
    let arcs = c.args.network.now.arcs in
    omega (
      arith,
      leaving_few arcs c.loop-node.node,
      c.loop-node.invariant.network.few_arcs,
      ap length c.arcs_from.ensures ∙
          length-map (leaving c.loop-node.node arcs) hop_of,
    )

pub count_reaching-requires-clause-room : goal.count_reaching-requires-clause-room
count_reaching-requires-clause-room c =
    let arcs = c.args.network.now.arcs in
    rw (c.deref_mut.ensures.value) (λ node d h.
    let within : node < length c.args.network.now.nodes = let e = c.loop-node.invariant.each in omega (arith, e, h) in
    rw (get_or_default c.loop-node.degrees.items node d 0 h)
    (omega (
      arith,
      c.loop-node.invariant.counted node within,
      leaving_few arcs node,
      reaching_few arcs c.loop-node.node node,
      c.loop-node.invariant.network.few_arcs,
    )))

pub loop-node-preserved : goal.loop-node-preserved
loop-node-preserved c =
    let roads = c.args.network.now in
    let arcs = roads.arcs in
    let k = c.loop-node.node in
    let new = c.count_reaching.new.counts in
    let value = c.deref_mut.ensures.value in
    let long : length c.count_reaching.new.counts ≡ c.loop-node.degrees.len = omega (
      arith,
      ap length value,
      c.count_reaching.auto.counts,
      c.loop-node.degrees.ok.0,
    ) in
    record {
      network = c.loop-node.invariant.network;
      each = rw (take_at new (drop (length new) c.loop-node.degrees.items) c.loop-node.degrees.len long)
          (omega (arith, ap length value, c.count_reaching.auto.counts, c.loop-node.invariant.each));
      counted = λ node h. rw (take_at new (drop (length new) c.loop-node.degrees.items) c.loop-node.degrees.len long)
          (let read = (rw (value, c.arcs_from.ensures) at c.count_reaching.ensures) node (omega (arith, c.loop-node.invariant.each, h)) in
          omega (arith, read, c.loop-node.invariant.counted node h, reaching_more arcs k node));
    }

pub returns-clause-degrees : goal.returns-clause-degrees
returns-clause-degrees c = λ node h.
    let arcs = c.args.network.now.arcs in
    let n = length c.args.network.now.nodes in
    let ended : c.loop-node.node ≡ length c.args.network.now.nodes = omega (
      arith,
      c.loop-node-test.false,
      c.loop-node.auto.node-end,
      c.node_count-nodes.ensures.count,
    ) in
    c.loop-node.invariant.counted node h ∙ rw ended (degree_is arcs n node c.loop-node.invariant.network.arcs)
