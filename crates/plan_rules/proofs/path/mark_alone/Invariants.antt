use Rattle.std.proofs.Common.{◌≡◌, ◌==◌, ℕ, ◌<◌, ◌≤◌, ◌&&◌, ◌||◌, not, false, length, get_or}
use Rattle.plan_rules.proofs.Common.{row_vehicle}
use Rattle.plan_rules.proofs.path.mark_alone.Given as goal

abbrev pub invariant-loop-row : goal.invariant-loop-row
invariant-loop-row l = record {
  len : length l.usable ≡ length l.initial.usable;
  done : (k : ℕ) → k < l.row → k < length l.graph.rows → get_or l.usable k false ≡ (get_or l.initial.usable k false &&
      (not (row_vehicle l.graph k == l.decision.vehicle) || k == l.decision.row));
  still : (k : ℕ) → l.row ≤ k → get_or l.usable k false ≡ get_or l.initial.usable k false;
}
