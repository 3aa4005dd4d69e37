use Rattle.rebalancing.proofs.Common.{IsPricedMatching, IsSized, IsSameProblem, HasRoom}
use Rattle.rebalancing.proofs.best_moves.matched.Given as goal

abbrev pub invariant-loop-vehicle : goal.invariant-loop-vehicle
invariant-loop-vehicle l = IsPricedMatching l.vehicle l.vehicle l.matching × IsSized l.matching × HasRoom l.riders l.tree × IsSameProblem l.initial.matching
    l.matching
