use Rattle.std.proofs.Common.{◌≡◌, ℕ}
use Rattle.assignment_search.proofs.Common.{usable_of, multiplier_at, first_fit_below, IsModest}
use Rattle.assignment_search.proofs.first_fit_pass.fit.Given as goal

abbrev pub invariant-loop-rider : goal.invariant-loop-rider
invariant-loop-rider l = record {
  value : (r : ℕ) → multiplier_at l.multipliers r ≡ multiplier_at (first_fit_below l.graph (usable_of l.allowed) l.rider) r;
  modest : (r : ℕ) → IsModest (multiplier_at l.multipliers r);
}
