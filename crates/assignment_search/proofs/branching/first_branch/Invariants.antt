use Rattle.std.proofs.Common.{◌≡◌, ℕ, ◌<◌}
use Rattle.assignment_search.proofs.Common.{usable_of, MayUse}
use Rattle.assignment_search.proofs.branching.first_branch.Given as goal

abbrev pub invariant-loop-vehicle : goal.invariant-loop-vehicle
invariant-loop-vehicle l = (v j k : ℕ) → v < l.vehicle → MayUse l.graph (usable_of l.allowed) v j → MayUse l.graph (usable_of l.allowed) v k → j ≡ k
