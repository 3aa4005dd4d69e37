use Rattle.std.proofs.Common.{◌≡◌, ◌<◌, [], List, length, sym, ap, ◌∙◌, inl, inr, arith}
use Rattle.travel_times.proofs.Common.{cases_eq, get_or_default, get_or-set_same, get_or-set_other, length-set, length-replicate, Hop}
use Rattle.travel_times.proofs.labels.HopLemmas.{few_nodes, leaving_hops, none_of}
use Rattle.travel_times.proofs.labels.hops.hops_ahead.Goals as goal

pub loop-node-init : goal.loop-node-init
loop-node-init c = record {
  network = c.node_count-nodes.ensures.kept;
  each = ap length c.in_ok-hops.ensures ∙ length-replicate {A = List Hop} c.node_count-nodes.result [] ∙ c.node_count-nodes.ensures.count;
  placed = λ node lt. absurd (omega (arith, lt));
  rest = λ node low. rw c.in_ok-hops.ensures (none_of c.node_count-nodes.result node);
}

pub copy_hops-requires-clause-few : goal.copy_hops-requires-clause-few
copy_hops-requires-clause-few c =
    let roads = c.args.network.now in
    rw c.arcs_from.ensures (few_nodes roads.arcs (length roads.nodes) c.loop-node.node c.loop-node.invariant.network.arcs
    c.loop-node.invariant.network.few_nodes)

pub copy_hops-requires-clause-none : goal.copy_hops-requires-clause-none
copy_hops-requires-clause-none c =
    let inv = c.loop-node.invariant in
    let within : c.loop-node.node < length c.loop-node.hops.items = omega (arith, inv.each, c.loop-node-test.true, c.node_count-nodes.ensures.count) in
    c.index_mut.ensures.value ∙ sym (get_or_default c.loop-node.hops.items c.loop-node.node [] c.index_mut.result.now within) ∙
    inv.rest c.loop-node.node (omega arith)

pub loop-node-preserved : goal.loop-node-preserved
loop-node-preserved c =
    let inv = c.loop-node.invariant in
    let i = c.loop-node.node in
    let old = c.loop-node.hops.items in
    let new = c.copy_hops.new.hops in
    let within : c.loop-node.node < length c.loop-node.hops.items = omega (arith, inv.each, c.loop-node-test.true, c.node_count-nodes.ensures.count) in
    record {
      network = inv.network;
      each = length-set old i new ∙ inv.each;
      placed = λ k lt. elim (cases_eq k i) [
        | inl e ↦ rw e (get_or-set_same old i new [] within ∙ c.in_ok-copy_hops.ensures ∙ c.arcs_from.ensures)
        | inr ne ↦ get_or-set_other old i k new [] ne ∙ inv.placed k (omega (arith, lt, ne))
      ];
      rest = λ k low. get_or-set_other old i k new [] (λ e. omega (arith, low, e)) ∙ inv.rest k (omega (arith, low));
    }

pub returns : goal.returns
returns c =
    let roads = c.args.network.now in
    let ended : c.loop-node.node ≡ length c.args.network.now.nodes = omega (
      arith,
      c.loop-node-test.false,
      c.loop-node.auto.node-end,
      c.node_count-nodes.ensures.count,
    ) in
    record {
      each = c.loop-node.invariant.each;
      placed = λ node h. leaving_hops roads.arcs node _ (c.loop-node.invariant.placed node (omega (arith, h, ended)));
    }
