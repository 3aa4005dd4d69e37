use Rattle.std.proofs.Common.{ℕ, ◌<◌, IsTrue, length}
use Rattle.plan_rules.proofs.Common.{must_be_served, usable_of, StandsInSome}
use Rattle.plan_rules.proofs.dead_end.has_stranded.Given as goal

abbrev pub invariant-loop-rider : goal.invariant-loop-rider
invariant-loop-rider l = (r : ℕ) → r < l.rider → IsTrue (must_be_served l.graph r) → StandsInSome l.graph (usable_of l.allowed) (length l.graph.rows) r
