use Rattle.std.proofs.Common.{◌-◌, arith}
use Rattle.stop_orders.proofs.PairLemmas.{before_up_to}
use Rattle.stop_orders.proofs.pair_list.start_at.Goals as goal

pub returns-then-is_before-clause-before : goal.returns-then-is_before-clause-before
returns-then-is_before-clause-before c =
    λ k h. before_up_to c.args.pairs.now c.requires (c.args.near - 1) k (c.args.a, c.args.b) (omega arith) (c.is_before.ensures.0 c.if-is_before.true)
    (omega arith)
