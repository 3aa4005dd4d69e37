use Rattle.report_audit.proofs.lines.SignedLemmas.{below_none, below_zero_none}
use Rattle.report_audit.proofs.lines.words.below_zero.Goals as goal

pub returns-in_err-n : goal.returns-in_err-n
returns-in_err-n c = rw c.from_residual.ensures (below_none c.args.text.now c.in_err-n.ensures)

pub returns-then-n-eq0 : goal.returns-then-n-eq0
returns-then-n-eq0 c = below_zero_none c.args.text.now c.in_ok-n.n c.in_ok-n.rest.now c.in_ok-n.ensures c.if-n-eq0.true
