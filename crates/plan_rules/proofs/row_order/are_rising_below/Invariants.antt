use Rattle.plan_rules.proofs.RowLemmas.{IsRisingSoFar}
use Rattle.plan_rules.proofs.row_order.are_rising_below.Given as goal

abbrev pub invariant-loop-rider : goal.invariant-loop-rider
invariant-loop-rider l = IsRisingSoFar l.riders l.least l.rider-index l.members
