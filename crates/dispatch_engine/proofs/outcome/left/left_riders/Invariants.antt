use Rattle.std.proofs.Common.{◌≡◌, ◌==◌, filter}
use Rattle.dispatch_engine.proofs.Common.{range_with_len, times_chosen}
use Rattle.dispatch_engine.proofs.outcome.left.left_riders.Given as goal

abbrev pub invariant-loop-rider : goal.invariant-loop-rider
invariant-loop-rider l = l.left.items ≡ filter (λ r. times_chosen l.graph l.chosen r == 0) (range_with_len 0 l.rider)
