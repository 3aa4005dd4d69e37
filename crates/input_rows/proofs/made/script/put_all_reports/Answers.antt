use Rattle.std.proofs.Common.{◌+◌, ◌≡◌, arith}
use Rattle.input_rows.proofs.Common.{report_row, all_reports}
use Rattle.input_rows.proofs.made.WrittenLemmas.{Writes-none, Writes-next}
use Rattle.input_rows.proofs.made.script.put_all_reports.Goals as goal

pub loop-n-init : goal.loop-n-init
loop-n-init c = Writes-none (λ n. report_row c.args.shape.now c.args.k (n + 1)) _ _

pub loop-n-preserved : goal.loop-n-preserved
loop-n-preserved c = Writes-next (λ n. report_row c.args.shape.now c.args.k (n + 1)) c.loop-n.n _ _ _ _ _ _ c.loop-n.invariant c.in_ok-put_report.ensures

pub returns : goal.returns
unfolding all_reports
returns c = let ended : c.loop-n.n ≡ c.args.shape.now.vehicles = omega (arith, c.from-n-end.ensures) in rw ended at c.loop-n.invariant
