use Rattle.std.proofs.Common.{◌∙◌, inl, inr, arith}
use Rattle.travel_times.proofs.Common.{get_or_default}
use Rattle.travel_times.proofs.labels.via.clear.Goals as goal

pub returns : goal.returns
returns c k d h = elim (c.loop-hub.invariant k h) [
  | inl e ↦ get_or_default c.loop-hub.via k d 0 h ∙ e
  | inr x ↦ absurd (omega (arith, x.1, x.2, c.loop-hub-test.false))
]
