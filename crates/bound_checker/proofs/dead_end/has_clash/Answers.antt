use Rattle.std.proofs.Common.{arith}
use Rattle.bound_checker.proofs.DeadEndLemmas.{below_end}
use Rattle.bound_checker.proofs.dead_end.has_clash.Goals as goal

pub returns : goal.returns
returns c v w below share = c.loop-first.invariant v w (omega (arith, below_end c.args.sole.now v share.one share.first)) below share
