use Rattle.assignment_search.proofs.ExchangeLemmas.{shared_betters_nothing}
use Rattle.assignment_search.proofs.ChangeLemmas.{dear_betters_nothing, loss_betters_nothing}
use Rattle.assignment_search.proofs.exchange.betters_nothing.Goals as goal

pub returns-then-is_dear : goal.returns-then-is_dear
returns-then-is_dear c = λ _.
    dear_betters_nothing c.args.graph.now c.args.chosen.now c.args.vehicle c.in-Some.old c.args.row c.vehicle_count-count.ensures.good c.requires.lawful
    c.requires.vehicle c.in-Some.is
    (c.is_dear.ensures c.if-is_dear.true)

pub returns-then-loses_promised : goal.returns-then-loses_promised
returns-then-loses_promised c = λ _.
    let w = c.loses_promised.ensures c.if-loses_promised.true in
    loss_betters_nothing c.args.graph.now c.args.chosen.now c.args.vehicle c.in-Some.old c.args.row (w.0) c.requires.lawful c.requires.vehicle c.in-Some.is
    (w.1) (w.2) (w.3)

pub returns : goal.returns
returns c = λ shared.
    shared_betters_nothing c.args.graph.now c.args.chosen.now c.args.vehicle c.args.row c.requires.lawful.plan.sized c.requires.vehicle
    (c.is_shared.ensures shared)
