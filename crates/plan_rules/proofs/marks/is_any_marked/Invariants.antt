use Rattle.std.proofs.Common.{◌≡◌, false, take, get_or}
use Rattle.plan_rules.proofs.Common.{list_any}
use Rattle.plan_rules.proofs.marks.is_any_marked.Given as goal

abbrev pub invariant-loop-rider : goal.invariant-loop-rider
invariant-loop-rider l = list_any (λ r. get_or l.marks r false) (take l.rider-index l.riders) ≡ false
