use Rattle.std.proofs.Common.{◌≡◌, vec_len}
use Rattle.assignment_search.proofs.cheapest.CheapestRows.new.Given as goal

abbrev pub invariant-loop-vehicle : goal.invariant-loop-vehicle
invariant-loop-vehicle l = vec_len l.rows ≡ l.vehicle
