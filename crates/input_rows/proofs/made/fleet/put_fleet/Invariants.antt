use Rattle.std.proofs.Common.{◌+◌}
use Rattle.input_rows.proofs.Common.{each, draws_of, Writes, vehicle_row}
use Rattle.input_rows.proofs.made.fleet.put_fleet.Given as goal

abbrev pub invariant-loop-n : goal.invariant-loop-n
invariant-loop-n l =
    Writes (each (λ n. vehicle_row l.shape (n + 1)) l.n) l.initial.text.items l.text.items (draws_of l.initial.rng) (draws_of l.rng)
