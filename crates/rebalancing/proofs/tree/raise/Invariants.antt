use Rattle.rebalancing.proofs.TreePrices.{IsRising}
use Rattle.rebalancing.proofs.tree.raise.Given as goal

abbrev pub invariant-loop-position : goal.invariant-loop-position
invariant-loop-position l = IsRising l.riders l.by l.position l.initial.prices l.prices
