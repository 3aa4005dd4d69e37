use Rattle.std.proofs.Common.{get_or, sym, ◌∙◌, arith}
use Rattle.bound_checker.proofs.Common.{has_at}
use Rattle.bound_checker.proofs.dead_end.share_a_rider.Goals as goal

pub returns-then-contains : goal.returns-then-contains
returns-then-contains c = (
  get_or c.args.riders.now c.loop-rider.rider-index 0,
  has_at c.args.riders.now c.loop-rider.rider-index (omega arith),
  sym
      c.contains.ensures.value ∙ c.if-contains.true,
)
