use Rattle.std.proofs.Common.{inl, inr, arith}
use Rattle.plan_rules.proofs.Common.{false≢true}
use Rattle.plan_rules.proofs.RowLemmas.{not_rising}
use Rattle.plan_rules.proofs.row_order.are_rising_below.Goals.{then-rider-least-via-then-rider-least, then-rider-least-via-else-rider-least+then-rider-riders}
use Rattle.plan_rules.proofs.row_order.are_rising_below.Goals as goal

pub returns-then-rider-least : goal.returns-then-rider-least
returns-then-rider-least c = (
  λ e. absurd (false≢true e),
  λ h. absurd (elim c.then-rider-least.branch [
    | then-rider-least-via-then-rider-least w ↦ not_rising c.args.riders c.loop-rider.least c.loop-rider.rider-index c.args.members.now c.loop-rider.invariant
        (omega arith) (inl w.if-rider-least.true) h
    | then-rider-least-via-else-rider-least+then-rider-riders w ↦ not_rising c.args.riders c.loop-rider.least c.loop-rider.rider-index c.args.members.now
        c.loop-rider.invariant (omega arith) (inr w.if-rider-riders.true) h
  ]),
)
