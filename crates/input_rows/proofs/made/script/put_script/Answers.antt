use Rattle.std.proofs.Common.{◌≡◌, arith}
use Rattle.input_rows.proofs.Common.{batch_rows, script_part}
use Rattle.input_rows.proofs.made.WrittenLemmas.{Writes-none, Writes-next}
use Rattle.input_rows.proofs.made.script.put_script.Goals as goal

pub loop-k-init : goal.loop-k-init
loop-k-init c = Writes-none (batch_rows c.args.shape.now) _ _

pub loop-k-preserved : goal.loop-k-preserved
loop-k-preserved c = Writes-next (batch_rows c.args.shape.now) c.loop-k.k _ _ _ _ _ _ c.loop-k.invariant c.in_ok-put_batch.ensures

pub returns : goal.returns
unfolding script_part
returns c = let ended : c.loop-k.k ≡ c.args.shape.now.rounds = omega (arith, c.from-k-end.ensures) in rw ended at c.loop-k.invariant
