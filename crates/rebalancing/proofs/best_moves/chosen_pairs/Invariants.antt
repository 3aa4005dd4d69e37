use Rattle.rebalancing.proofs.Common.{IsChosen}
use Rattle.rebalancing.proofs.best_moves.chosen_pairs.Given as goal

abbrev pub invariant-loop-vehicle : goal.invariant-loop-vehicle
invariant-loop-vehicle l = IsChosen l.matching l.vehicle l.pairs.items
