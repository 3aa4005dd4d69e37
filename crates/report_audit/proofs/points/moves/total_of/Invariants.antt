use Rattle.std.proofs.Common.{◌≡◌, ◌≤◌, ◌*◌, take, sum_by}
use Rattle.report_audit.proofs.points.moves.total_of.Given as goal

abbrev pub invariant-loop-step : goal.invariant-loop-step
invariant-loop-step l = record {
  sum : l.total ≡ sum_by (λ m. m.seconds) (take l.step-index l.moves);
  small : l.total ≤ l.step-index * 4294967296;
}
