use Rattle.std.proofs.Common.{◌≡◌, drop}
use Rattle.route_drive.proofs.Common.{plan_in}
use Rattle.route_drive.proofs.plan.plan_in.Given as goal

abbrev pub invariant-loop-entry : goal.invariant-loop-entry
invariant-loop-entry l = plan_in l.entries ≡ plan_in (drop l.entry-index l.entries)
