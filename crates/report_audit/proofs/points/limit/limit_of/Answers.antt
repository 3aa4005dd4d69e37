use Rattle.std.proofs.Common.{◌≡◌, ap, ◌∙◌, arith}
use Rattle.report_audit.proofs.Common.{both_ways, cost_of}
use Rattle.report_audit.proofs.lemmas.points.LimitLemmas.{limit_held, limit_greedy, limit_dear}
use Rattle.report_audit.proofs.points.limit.limit_of.Goals as goal

pub returns-then-not-is_lawful : goal.returns-then-not-is_lawful
returns-then-not-is_lawful c =
    let g = c.args.graph.now in
    limit_held g c.vehicle_count-count.ensures.good c.in_ok-greedy.greedy c.in_ok-greedy.ensures
    (λ lawful. both_ways _ c.if-not-is_lawful.true (c.is_lawful.ensures.1 lawful)) c.cost_of-limit.result
    (c.cost_of-limit.ensures ∙ ap (cost_of g) c.in_ok-held.ensures.value)

pub returns-then-cost-limit : goal.returns-then-cost-limit
returns-then-cost-limit c =
    let g = c.args.graph.now in
    let held : c.cost_of-limit.result ≡ cost_of g g.held = c.cost_of-limit.ensures ∙ ap (cost_of g) c.in_ok-held.ensures.value in
    let below = c.if-cost-limit.true in
    limit_greedy g c.vehicle_count-count.ensures.good c.in_ok-greedy.greedy c.in_ok-greedy.ensures
    (c.is_lawful.ensures.0 c.if-not-is_lawful.false) c.cost_of-cost.result c.cost_of-cost.ensures (omega (arith, held, below))

pub returns : goal.returns
returns c =
    let g = c.args.graph.now in
    let held : c.cost_of-limit.result ≡ cost_of g g.held = c.cost_of-limit.ensures ∙ ap (cost_of g) c.in_ok-held.ensures.value in
    let above = c.if-cost-limit.false in
    let same = c.cost_of-cost.ensures in
    limit_dear g c.vehicle_count-count.ensures.good c.in_ok-greedy.greedy c.in_ok-greedy.ensures c.cost_of-limit.result held (omega (arith, above, same))
