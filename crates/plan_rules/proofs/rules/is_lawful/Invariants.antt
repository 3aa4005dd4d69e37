use Rattle.std.proofs.Common.{◌≡◌, ℕ, ◌<◌, IsTrue}
use Rattle.plan_rules.proofs.Common.{must_be_served, times_chosen}
use Rattle.plan_rules.proofs.rules.is_lawful.Given as goal

abbrev pub invariant-loop-rider : goal.invariant-loop-rider
invariant-loop-rider l = (r : ℕ) → r < l.rider → IsTrue (must_be_served l.graph r) → times_chosen l.graph l.plan r ≡ 1
