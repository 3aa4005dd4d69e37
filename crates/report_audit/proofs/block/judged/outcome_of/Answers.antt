use Rattle.std.proofs.Common.{map}
use Rattle.report_audit.proofs.block.judged.outcome_of.Goals as goal

pub returns-then-told : goal.returns-then-told
returns-then-told c = c.overflow.ensures (map (λ v. v.id) c.args.vehicles.now)

pub returns-in-Ok : goal.returns-in-Ok
returns-in-Ok c = c.planned.ensures (map (λ v. v.id) c.args.vehicles.now) c.in-Ok.ensures.late c.in-Ok.ensures.rows c.in-Ok.ensures.chosen c.in-Ok.ensures.tree
