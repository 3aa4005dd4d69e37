use Rattle.std.proofs.Common.{◌≡◌, vec_len}
use Rattle.bound_checker.proofs.Common.{Graph, standing_of, IsPathOf}
use Rattle.bound_checker.proofs.decisions.leave.Given as goal

abbrev pub invariant-loop-last : goal.invariant-loop-last
invariant-loop-last l = record {
  coming : (g : Graph) → (standing_of g l.initial.decisions.items).coming ≡ (standing_of g l.decisions.items).coming;
  path : (g : Graph) → IsPathOf g l.initial.decisions.items → IsPathOf g l.decisions.items;
}

abbrev pub decreases-loop-last : goal.decreases-loop-last
decreases-loop-last l = vec_len l.decisions
