use Rattle.std.proofs.Common.{◌≡◌, length}
use Rattle.plan_rules.proofs.Common.{usable_of, MarksSole}
use Rattle.plan_rules.proofs.dead_end.has_clash.Given as goal

abbrev pub invariant-loop-vehicle : goal.invariant-loop-vehicle
invariant-loop-vehicle l = record {
  marked : MarksSole l.graph (usable_of l.allowed) l.vehicle l.marks;
  len : length l.marks ≡ l.graph.riders;
}
