use Rattle.std.proofs.Common.{arith}
use Rattle.assignment_search.proofs.Common.{ints, usable_of}
use Rattle.assignment_search.proofs.CeilingLemmas.{ceilings_first, ceiling_of_value, costs_modest}
use Rattle.assignment_search.proofs.ceiling.quick_ceiling_of.Goals as goal

pub loop-vehicle-init : goal.loop-vehicle-init
loop-vehicle-init c =
    ceilings_first c.args.graph.now (usable_of c.args.allowed.now) c.args.rooms.now c.rider_count-riders.ensures.good c.requires.len c.requires.each

pub sum_of-requires-clause-modest : goal.sum_of-requires-clause-modest
sum_of-requires-clause-modest c = costs_modest c.args.graph.now (usable_of c.args.allowed.now) c.args.costs.now c.requires.costs

pub returns : goal.returns
returns c =
    let most = ceiling_of_value c.args.graph.now (usable_of c.args.allowed.now) c.args.costs.now c.loop-vehicle.rooms c.sum_of.result c.sum_of-2.result
    c.rider_count-riders.ensures.good c.requires.costs c.loop-vehicle.invariant c.sum_of.ensures.value c.sum_of-2.ensures.value in
    omega (arith, ints, most, c.sum_of.ensures.low, c.sum_of.ensures.high, c.sum_of-2.ensures.low, c.sum_of-2.ensures.high)
