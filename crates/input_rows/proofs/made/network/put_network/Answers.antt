use Rattle.std.proofs.Common.{◌≡◌, arith}
use Rattle.input_rows.proofs.Common.{arcs_of_row, network_part}
use Rattle.input_rows.proofs.made.WrittenLemmas.{Writes-none, Writes-next}
use Rattle.input_rows.proofs.made.network.put_network.Goals as goal

pub loop-i-init : goal.loop-i-init
loop-i-init c = Writes-none (arcs_of_row c.args.shape.now.side) _ _

pub loop-i-preserved : goal.loop-i-preserved
loop-i-preserved c = Writes-next (arcs_of_row c.args.shape.now.side) c.loop-i.i _ _ _ _ _ _ c.loop-i.invariant
    (rw c.from-side.ensures at c.in_ok-put_row_arcs.ensures)

pub returns : goal.returns
unfolding network_part
returns c = let ended : c.loop-i.i ≡ c.args.shape.now.side = omega (arith, c.from-side.ensures) in rw ended at c.loop-i.invariant
