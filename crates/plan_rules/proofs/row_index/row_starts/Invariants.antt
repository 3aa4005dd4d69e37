use Rattle.std.proofs.Common.{◌≡◌, ℕ, ◌<◌, vec_len, get_or}
use Rattle.plan_rules.proofs.Common.{IsStartOf, graph_of}
use Rattle.plan_rules.proofs.row_index.row_starts.Given as goal

abbrev pub invariant-loop-vehicle : goal.invariant-loop-vehicle
invariant-loop-vehicle l = record {
  len : vec_len l.starts ≡ l.vehicle;
  before : (v : ℕ) → v < l.vehicle → IsStartOf (graph_of l.parts) v (get_or l.starts.items v 0);
  here : IsStartOf (graph_of l.parts) l.vehicle l.row;
}
