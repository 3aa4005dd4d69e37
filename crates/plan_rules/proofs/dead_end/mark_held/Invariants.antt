use Rattle.std.proofs.Common.{◌≡◌, length}
use Rattle.plan_rules.proofs.Common.{usable_of, MarksSomeUsable}
use Rattle.plan_rules.proofs.dead_end.mark_held.Given as goal

abbrev pub invariant-loop-vehicle : goal.invariant-loop-vehicle
invariant-loop-vehicle l = record {
  marked : MarksSomeUsable l.graph (usable_of l.allowed) l.marks;
  len : length l.marks ≡ l.graph.riders;
}
