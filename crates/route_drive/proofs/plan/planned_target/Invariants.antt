use Rattle.std.proofs.Common.{◌≡◌, drop, find, ◌==◌}
use Rattle.route_drive.proofs.Common.{MoveLine}
use Rattle.route_drive.proofs.plan.planned_target.Given as goal

abbrev pub invariant-loop-line : goal.invariant-loop-line
invariant-loop-line l = find (λ (line : MoveLine). line.vehicle == l.vehicle) l.line-items ≡ find (λ (line : MoveLine). line.vehicle == l.vehicle)
    (drop l.line-index l.line-items)
