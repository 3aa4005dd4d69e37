use Rattle.input_rows.proofs.Common.{each, draws_of, arcs_of_row, Writes}
use Rattle.input_rows.proofs.made.network.put_network.Given as goal

abbrev pub invariant-loop-i : goal.invariant-loop-i
invariant-loop-i l =
    Writes (each (arcs_of_row l.shape.side) l.i) l.initial.text.items l.text.items (draws_of l.initial.rng) (draws_of l.rng)
