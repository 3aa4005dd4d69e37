use Rattle.std.proofs.Common.{◌+◌, ◌≡◌, arith}
use Rattle.input_rows.proofs.Common.{submit_row, submits}
use Rattle.input_rows.proofs.made.WrittenLemmas.{Writes-none, Writes-next}
use Rattle.input_rows.proofs.made.script.put_submits.Goals as goal

pub loop-n-init : goal.loop-n-init
loop-n-init c = Writes-none (λ n. submit_row c.args.shape.now c.args.k (n + 1)) _ _

pub loop-n-preserved : goal.loop-n-preserved
loop-n-preserved c = Writes-next (λ n. submit_row c.args.shape.now c.args.k (n + 1)) c.loop-n.n _ _ _ _ _ _ c.loop-n.invariant c.in_ok-put_submit.ensures

pub returns : goal.returns
unfolding submits
returns c = let ended : c.loop-n.n ≡ c.args.shape.now.riders = omega (arith, c.from-n-end.ensures) in rw ended at c.loop-n.invariant
