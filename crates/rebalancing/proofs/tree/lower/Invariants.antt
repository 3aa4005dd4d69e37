use Rattle.rebalancing.proofs.TreePrices.{IsFalling}
use Rattle.rebalancing.proofs.tree.lower.Given as goal

abbrev pub invariant-loop-vehicle : goal.invariant-loop-vehicle
invariant-loop-vehicle l = IsFalling l.vehicles l.by l.vehicle-index l.initial.prices l.prices
