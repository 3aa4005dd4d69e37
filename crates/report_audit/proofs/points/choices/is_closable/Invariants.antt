use Rattle.std.proofs.Common.{◌≡◌, ◌≤◌, length, max}
use Rattle.report_audit.proofs.Common.{count_below, is_usable_by, every_row, product_below}
use Rattle.report_audit.proofs.points.choices.is_closable.Given as goal

abbrev pub invariant-loop-vehicle : goal.invariant-loop-vehicle
invariant-loop-vehicle l = record {
  product : l.choices ≡ product_below l.vehicle (λ v. max 1 (count_below (length l.graph.rows) (is_usable_by l.graph every_row v)));
  few : l.choices ≤ 10000000000000000;
}
