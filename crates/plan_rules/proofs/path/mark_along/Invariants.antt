use Rattle.std.proofs.Common.{◌≡◌, ℕ, ◌<◌, true, false, length, get_or, take}
use Rattle.plan_rules.proofs.Common.{standing_of}
use Rattle.plan_rules.proofs.path.mark_along.Given as goal

abbrev pub invariant-loop-may : goal.invariant-loop-may
invariant-loop-may l = (k : ℕ) → k < l.may-index → get_or l.usable k false ≡ true

abbrev pub invariant-loop-decision : goal.invariant-loop-decision
invariant-loop-decision l = record {
  len : length l.usable ≡ length l.graph.rows;
  usable : (k : ℕ) → k < length l.graph.rows → get_or l.usable k false ≡ (standing_of l.graph (take l.decision-index l.path)).usable k;
}
