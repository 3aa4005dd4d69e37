use Rattle.std.proofs.Common.{◌≡◌, ℕ, ◌<◌, false, get_or}
use Rattle.plan_rules.proofs.dead_end.clear.Given as goal

abbrev pub invariant-loop-mark : goal.invariant-loop-mark
invariant-loop-mark l = (r : ℕ) → r < l.mark-index → get_or l.marks r false ≡ false
