use Rattle.std.proofs.Common.{◌≡◌, ℕ, ◌<◌, true, false, IsTrue, get_or}
use Rattle.bound_checker.proofs.Common.{must_be_served}
use Rattle.bound_checker.proofs.dead_end.has_stranded.Given as goal

abbrev pub invariant-loop-rider : goal.invariant-loop-rider
invariant-loop-rider l = (r : ℕ) → r < l.rider → IsTrue (must_be_served l.graph r) → get_or l.standing r false ≡ true
