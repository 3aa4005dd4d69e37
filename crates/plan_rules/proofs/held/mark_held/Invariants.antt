use Rattle.std.proofs.Common.{ℕ, ◌<◌}
use Rattle.plan_rules.proofs.Common.{MarksServed, HoldsRightly, graph_of}
use Rattle.plan_rules.proofs.held.mark_held.Given as goal

abbrev pub invariant-loop-vehicle : goal.invariant-loop-vehicle
invariant-loop-vehicle l = record {
  marks : MarksServed (graph_of l.parts) l.parts.held.items l.vehicle l.marks.items;
  holds : (v : ℕ) → v < l.vehicle → HoldsRightly (graph_of l.parts) v;
}
