use Rattle.std.proofs.Common.{◌≡◌, arith}
use Rattle.input_rows.proofs.Common.{both, arcs_right, arcs_down, arcs_of_row}
use Rattle.input_rows.proofs.made.WrittenLemmas.{Writes-both, Writes-none, Writes-next}
use Rattle.input_rows.proofs.made.network.put_row_arcs.Goals as goal

pub loop-j-init : goal.loop-j-init
loop-j-init c = Writes-none (λ j. both (arcs_right c.args.side c.args.i j) (arcs_down c.args.side c.args.i j)) _ _

pub loop-j-preserved : goal.loop-j-preserved
loop-j-preserved c = Writes-next (λ j. both (arcs_right c.args.side c.args.i j) (arcs_down c.args.side c.args.i j)) c.loop-j.j _ _ _ _ _ _ c.loop-j.invariant
    (Writes-both (arcs_right c.args.side c.args.i c.loop-j.j) (arcs_down c.args.side c.args.i c.loop-j.j) _ _ _ _ _ _ c.in_ok-put_right.ensures
    c.in_ok-put_down.ensures)

pub returns : goal.returns
unfolding arcs_of_row
returns c = let ended : c.loop-j.j ≡ c.args.side = omega arith in rw ended at c.loop-j.invariant
