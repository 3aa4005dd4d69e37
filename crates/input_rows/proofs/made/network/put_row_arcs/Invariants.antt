use Rattle.input_rows.proofs.Common.{both, each, draws_of, arcs_right, arcs_down, Writes}
use Rattle.input_rows.proofs.made.network.put_row_arcs.Given as goal

abbrev pub invariant-loop-j : goal.invariant-loop-j
invariant-loop-j l =
    Writes (each (λ j. both (arcs_right l.side l.i j) (arcs_down l.side l.i j)) l.j) l.initial.text.items l.text.items (draws_of l.initial.rng) (draws_of l.rng)
