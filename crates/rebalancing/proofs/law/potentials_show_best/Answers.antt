use Rattle.rebalancing.proofs.Common.{travel_time}
use Rattle.rebalancing.proofs.MatchingLaw.{best_by_prices, ArePrices-from_potentials}
use Rattle.rebalancing.proofs.law.potentials_show_best.Goals as goal

pub returns : goal.returns
returns c =
    let tau = travel_time c.args.times.now in
    best_by_prices tau c.args.idle.now c.args.wanted.now c.args.pairs.now _ _
    (λ a b h. c.args.times.now.table.times.range a b h)
    c.requires.few_idle
    c.requires.matching
    (ArePrices-from_potentials tau c.args.idle.now c.args.wanted.now c.args.pairs.now c.args.from.now c.args.to.now c.requires.matching c.requires.potentials)
