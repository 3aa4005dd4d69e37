use Rattle.std.proofs.Common.{◌≡◌, ℕ, ◌<◌, None, MatchOption, vec_len, get_or}
use Rattle.assignment_search.proofs.Common.{usable_of, MayUse}
use Rattle.assignment_search.proofs.branching.sole_rows.Given as goal

abbrev pub invariant-loop-vehicle : goal.invariant-loop-vehicle
invariant-loop-vehicle l = record {
  len : vec_len l.chosen ≡ l.vehicle;
  rows : (v : ℕ) → v < l.vehicle → MatchOption (get_or l.chosen.items v None) ((k : ℕ) → MayUse l.graph (usable_of l.allowed) v k → ⊥)
      (MayUse l.graph (usable_of l.allowed) v);
}
