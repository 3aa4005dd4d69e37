use Rattle.std.proofs.Common.{◌≡◌, ◌*◌, ◌≤◌, take, sum_by}
use Rattle.rebalancing.proofs.Common.{seconds_in, pair_worth}
use Rattle.rebalancing.proofs.best_moves.seconds_of_pairs.Given as goal

abbrev pub invariant-loop-vehicle : goal.invariant-loop-vehicle
invariant-loop-vehicle l = (l.total ≡ sum_by (seconds_in l.matching) (take l.vehicle-index l.pairs)) × (l.total ≤ l.vehicle-index * pair_worth)
