use Rattle.std.proofs.Common.{arith}
use Rattle.plan_rules.proofs.Common.{false≢true, usable_of}
use Rattle.plan_rules.proofs.DeadEndLemmas.{not_stranded}
use Rattle.plan_rules.proofs.dead_end.has_stranded.Goals as goal

pub returns : goal.returns
returns c = (
  λ e. absurd (false≢true e),
  λ s. absurd (not_stranded c.args.graph.now (usable_of c.args.allowed.now) c.rider_count-rider-end.ensures.good
      (λ r l must. c.loop-rider.invariant r (omega (arith, l, c.rider_count-rider-end.ensures.value)) must) s),
)
