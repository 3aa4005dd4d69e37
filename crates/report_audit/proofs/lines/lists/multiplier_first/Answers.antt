use Rattle.std.proofs.Common.{codes, sym, subst}
use Rattle.report_audit.proofs.Common.{IsLong}
use Rattle.report_audit.proofs.lines.SignedLemmas.{not_long, wide_same}
use Rattle.report_audit.proofs.lines.lists.multiplier_first.Goals as goal

pub returns-in_err-long : goal.returns-in_err-long
returns-in_err-long c =
    let b = c.in_ok-n.ensures in
    rw c.from_residual-in_err-long.ensures (not_long (codes " ") c.args.text.now c.in_ok-n.n c.in_ok-n.rest.now b
    (λ is. c.in_err-long.ensures.none (subst IsLong (sym (wide_same c.in_ok-n.n b.lawful)) is)))
