use Rattle.std.proofs.Common.{◌≡◌, ◌≢◌, ◌<◌, length, get_or, refl, sym, ap, ◌∙◌, ⊎_elim, arith}
use Rattle.travel_times.proofs.Common.{cases_eq, false≢true, get_or_default}
use Rattle.travel_times.proofs.table.table.are_known.Goals as goal

pub returns-then-not-has_node : goal.returns-then-not-has_node
returns-then-not-has_node c =
    let within : c.loop-node.node-index < length c.args.nodes.now = omega arith in (
      λ f. absurd (false≢true f),
      λ all. c.if-not-has_node.ensures.1 (rw (← c.node-item.is) at (all c.loop-node.node-index c.node-item.result within)),
    )

pub loop-node-preserved : goal.loop-node-preserved
loop-node-preserved c = λ k d lt.
    let nodes = c.args.nodes.now in
    let i = c.loop-node.node-index in
    let node = c.node-item.result in
    let within : c.loop-node.node-index < length c.args.nodes.now = omega arith in
    ⊎_elim
    (λ (e : k ≡ c.loop-node.node-index).
    let at : get_or nodes k d ≡ node = ap (λ x. get_or nodes x d) e ∙ get_or_default nodes i d node within ∙ sym c.node-item.is in
    rw at (c.if-not-has_node.ensures.0 refl))
    (λ (ne : k ≢ c.loop-node.node-index). c.loop-node.invariant k d (omega arith))
    (cases_eq k c.loop-node.node-index)
