use Rattle.std.proofs.Common.{◌≡◌, ℕ, ◌<◌, true, false, length, get_or, take}
use Rattle.bound_checker.proofs.Common.{standing_of}
use Rattle.bound_checker.proofs.decisions.mark_allowed.Given as goal

abbrev pub invariant-loop-mark : goal.invariant-loop-mark
invariant-loop-mark l = (k : ℕ) → k < l.mark-index → get_or l.allowed k false ≡ true

abbrev pub invariant-loop-decision : goal.invariant-loop-decision
invariant-loop-decision l = record {
  len : length l.allowed ≡ length l.graph.rows;
  allowed : (k : ℕ) → k < length l.graph.rows → get_or l.allowed k false ≡ (standing_of l.graph (take l.decision-index l.decisions)).usable k;
}
