use Rattle.std.proofs.Common.{◌≡◌, ◌≢◌, ℕ, ◌<◌, ◌≤◌, false, get_or}
use Rattle.bound_checker.proofs.walk.can_branch.Given as goal

abbrev pub invariant-loop-other : goal.invariant-loop-other
invariant-loop-other l = (j : ℕ) → l.first ≤ j → j < l.other → j ≢ l.row → get_or l.allowed j false ≡ false
