use Rattle.std.proofs.Common.{◌≡◌, ℕ, ◌-◌, ◌<◌, length, get_or, map, ap, sym, ◌∙◌, subst, List, arith}
use Rattle.travel_times.proofs.Common.{get_or_default, degree, IsNodeOrder}
use Rattle.travel_times.proofs.labels.Keys.{degree_most}
use Rattle.travel_times.proofs.labels.Order.{pair_order}
use Rattle.travel_times.proofs.labels.rank.nodes_by_rank.Goals as goal

pub keys_of-requires-clause-few : goal.keys_of-requires-clause-few
keys_of-requires-clause-few c = rw c.deref.ensures.value (omega (arith, c.in_ok-degrees.ensures.each, c.node_count-nodes.ensures.kept.few_nodes))

pub keys_of-requires-clause-small : goal.keys_of-requires-clause-small
keys_of-requires-clause-small c = rw c.deref.ensures.value (λ node d h.
    let few = c.node_count-nodes.ensures.kept.few_arcs in
    let is = c.in_ok-degrees.ensures.degrees node (omega (arith, h, c.in_ok-degrees.ensures.each)) in
    rw (get_or_default c.in_ok-degrees.degrees.items node d 0 h) (omega (arith, degree_most c.args.network.now.arcs node few, is)))

pub returns : goal.returns
returns c =
    let roads = c.args.network.now in
    let n = length roads.nodes in
    let sorted = c.sort_unstable.new.self.items in
    let each = c.in_ok-degrees.ensures.each in
    let read = ap length c.deref.ensures.value in
    let keys : (node : ℕ) → node < length c.args.network.now.nodes → get_or c.in_ok-keys.keys.items node (0, 0) ≡
    (1000000 - degree c.args.network.now.arcs node, node) = λ node h.
    (rw c.deref.ensures.value at c.in_ok-keys.ensures.1) node (omega (arith, h, each)) ∙ ap (λ (d : ℕ). (1000000 - d, node))
    (c.in_ok-degrees.ensures.degrees node h) in
    let order : IsNodeOrder roads.arcs n (map (λ (key : ℕ × ℕ). key.1) sorted) = pair_order roads.arcs n c.in_ok-keys.keys.items sorted
    c.node_count-nodes.ensures.kept.few_nodes (c.in_ok-keys.ensures.0 ∙ read ∙ each) keys c.sort_unstable.ensures.permutation
    c.sort_unstable.ensures.sorted in
    let nodes = rw c.deref-2.ensures.value at c.in_ok-order.ensures in
    subst (λ (xs : List ℕ). IsNodeOrder roads.arcs n xs) (sym nodes) order
