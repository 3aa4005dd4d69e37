use Rattle.std.proofs.Common.{◌+◌}
use Rattle.input_rows.proofs.Common.{each, draws_of, Writes, submit_row}
use Rattle.input_rows.proofs.made.script.put_submits.Given as goal

abbrev pub invariant-loop-n : goal.invariant-loop-n
invariant-loop-n l =
    Writes (each (λ n. submit_row l.shape l.k (n + 1)) l.n) l.initial.text.items l.text.items (draws_of l.initial.rng) (draws_of l.rng)
