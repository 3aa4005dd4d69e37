use Rattle.std.proofs.Common.{arith}
use Rattle.bound_checker.proofs.Common.{false≢true}
use Rattle.bound_checker.proofs.DeadEndLemmas.{not_stranded}
use Rattle.bound_checker.proofs.dead_end.has_stranded.Goals as goal

pub returns : goal.returns
returns c usable marks = (
  λ e. absurd (false≢true e),
  λ s. absurd (not_stranded c.args.graph.now usable c.args.standing.now c.rider_count-rider-end.ensures.good
      (λ r l must. c.loop-rider.invariant r (omega (arith, l, c.rider_count-rider-end.ensures.value)) must) marks s),
)
