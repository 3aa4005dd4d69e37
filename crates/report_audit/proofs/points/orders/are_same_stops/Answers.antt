use Rattle.std.proofs.Common.{rules}
use Rattle.report_audit.proofs.Common.{slice_eq-Decides}
use Rattle.report_audit.proofs.points.orders.are_same_stops.Goals as goal

pub returns : goal.returns
returns c = slice_eq-Decides (λ a b. search rules) c.args.stops.now c.args.others.now c.eq.result c.eq.ensures
