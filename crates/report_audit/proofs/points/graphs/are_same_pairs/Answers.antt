use Rattle.std.proofs.Common.{rules}
use Rattle.report_audit.proofs.Common.{slice_eq-Decides}
use Rattle.report_audit.proofs.points.graphs.are_same_pairs.Goals as goal

pub returns : goal.returns
returns c = slice_eq-Decides (λ a b. search rules) c.args.pairs.now c.args.others.now c.eq.result c.eq.ensures
