use Rattle.std.proofs.Common.{◌≡◌, decimal, ap, ◌∙◌, sym, arith}
use Rattle.report_audit.proofs.Common.{value_of}
use Rattle.report_audit.proofs.lemmas.lines.NumeralLemmas.{begins_with_large, begins_with_other}
use Rattle.report_audit.proofs.lines.words.wide_first.Goals as goal

pub returns-in_err-n : goal.returns-in_err-n
returns-in_err-n c = rw c.from_residual.ensures (begins_with_large c.args.text.now c.digits_first.result.0.now c.digits_first.result.1.now c.args.most
    (omega arith) c.digits_first.ensures (omega (arith, c.in_err-n.ensures)))

pub returns-then-n-most : goal.returns-then-n-most
returns-then-n-most c = begins_with_large c.args.text.now c.digits_first.result.0.now c.digits_first.result.1.now c.args.most (omega arith)
    c.digits_first.ensures (omega (arith, c.in_ok-n.ensures))

pub returns-else-is_numeral_of : goal.returns-else-is_numeral_of
returns-else-is_numeral_of c =
    begins_with_other c.args.text.now c.digits_first.result.0.now c.digits_first.result.1.now c.args.most (omega arith) c.digits_first.ensures (λ e.
    let n : c.in_ok-n.n ≡ value_of c.digits_first.result.0.now = c.in_ok-n.ensures in
    let yes = c.is_numeral_of.ensures.whole (e ∙ ap decimal (sym n)) in
    cc)
