use Rattle.input_rows.proofs.Common.{each, draws_of, Writes, batch_rows}
use Rattle.input_rows.proofs.made.script.put_script.Given as goal

abbrev pub invariant-loop-k : goal.invariant-loop-k
invariant-loop-k l =
    Writes (each (batch_rows l.shape) l.k) l.initial.text.items l.text.items (draws_of l.initial.rng) (draws_of l.rng)
