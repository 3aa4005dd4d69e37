use Rattle.std.proofs.Common.{◌≡◌, ℕ, ◌<◌, ◌≤◌, length, false, get_or}
use Rattle.plan_rules.proofs.Common.{Decision}
use Rattle.plan_rules.proofs.path.Path.leave.Given as goal

abbrev pub invariant-loop-depth : goal.invariant-loop-depth
invariant-loop-depth l = record {
  within : l.depth ≤ length l.self-inside.decisions.items;
  dropped : (k : ℕ) (d : Decision) → l.depth ≤ k → k < length l.self-inside.decisions.items → (get_or l.self-inside.decisions.items k d).alone ≡ false;
}

abbrev pub decreases-loop-depth : goal.decreases-loop-depth
decreases-loop-depth l = l.depth
