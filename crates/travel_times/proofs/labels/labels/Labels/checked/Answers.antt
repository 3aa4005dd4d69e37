use Rattle.std.proofs.Common.{◌≡◌, ◌<◌, ℕ, List, length, subst, sym, arith, ◌∙◌}
use Rattle.travel_times.proofs.Common.{Hub, IsForwardHub, IsBackwardHub, IsForwardAt, IsFirstDifference}
use Rattle.travel_times.proofs.labels.Unique.{first_wrong}
use Rattle.travel_times.proofs.labels.labels.Labels.checked.Goals as goal

pub returns-in-Some-clause-refused : goal.returns-in-Some-clause-refused
returns-in-Some-clause-refused c =
    let roads = c.args.network.now in
    let of = c.in-Ok.ensures in
    let labels = c.in-Ok.labels in
    let differs : IsFirstDifference c.in-Ok.labels.forward c.args.forward.items c.in-Some.node =
    rw (c.forward_labels.ensures, c.deref.ensures.value) at c.in-Some.ensures.some in (
      omega (arith, c.if-len-nodes.false, c.len.ensures, c.args.forward.ok.0, c.node_count-nodes.ensures.count),
      omega (arith, c.if-len-nodes-2.false, c.len-else-len-nodes.ensures, c.args.backward.ok.0, c.node_count-nodes.ensures.count),
      first_wrong roads.arcs (length roads.nodes) (IsForwardHub roads.arcs) labels.forward c.args.forward.items c.in-Some.node of.forward_each of.forward
          differs,
    )

pub returns-in-Some-first_difference-clause-refused : goal.returns-in-Some-first_difference-clause-refused
returns-in-Some-first_difference-clause-refused c =
    let roads = c.args.network.now in
    let of = c.in-Ok.ensures in
    let labels = c.in-Ok.labels in
    let same : c.in-Ok.labels.forward ≡ c.args.forward.items = sym c.forward_labels.ensures ∙ c.in_default-first_difference.ensures.none ∙
    c.deref.ensures.value in
    let differs : IsFirstDifference c.in-Ok.labels.backward c.args.backward.items c.in-Some-first_difference.node =
    rw (c.backward_labels.ensures, c.deref-2.ensures.value) at c.in-Some-first_difference.ensures.some in (
      omega (arith, c.if-len-nodes.false, c.len.ensures, c.args.forward.ok.0, c.node_count-nodes.ensures.count),
      omega (arith, c.if-len-nodes-2.false, c.len-else-len-nodes.ensures, c.args.backward.ok.0, c.node_count-nodes.ensures.count),
      subst (λ (ls : List (List Hub)). (a : ℕ) → a < length roads.nodes → IsForwardAt roads ls a) same of.forward,
      first_wrong roads.arcs (length roads.nodes) (IsBackwardHub roads.arcs) labels.backward c.args.backward.items c.in-Some-first_difference.node
          of.backward_each of.backward differs,
    )
