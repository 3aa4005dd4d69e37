use Rattle.std.proofs.Common.{◌≡◌, ◌==◌, ℕ, ◌<◌, ◌≤◌, ◌&&◌, ◌||◌, not, false, length, get_or}
use Rattle.bound_checker.proofs.Common.{row_vehicle}
use Rattle.bound_checker.proofs.decisions.keep_alone.Given as goal

abbrev pub invariant-loop-row : goal.invariant-loop-row
invariant-loop-row l = record {
  len : length l.allowed ≡ length l.initial.allowed;
  done : (k : ℕ) → k < l.row → k < length l.graph.rows → get_or l.allowed k false ≡ (get_or l.initial.allowed k false &&
      (not (row_vehicle l.graph k == l.decision.vehicle) || k == l.decision.row));
  still : (k : ℕ) → l.row ≤ k → get_or l.allowed k false ≡ get_or l.initial.allowed k false;
}
