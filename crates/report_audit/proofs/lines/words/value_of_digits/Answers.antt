use Rattle.std.proofs.Common.{arith}
use Rattle.report_audit.proofs.lemmas.lines.NumeralLemmas.{value_after-most}
use Rattle.report_audit.proofs.lines.words.value_of_digits.Goals as goal

pub returns-in_err-tenfold : goal.returns-in_err-tenfold
returns-in_err-tenfold c =
    rw c.from_residual.ensures
    (value_after-most _ _ c.loop-digit.value c.loop-digit.digit-index c.args.digits.now (omega arith) c.loop-digit.invariant
    (omega (arith, c.in_err-tenfold.ensures)))

pub returns-in_err-value : goal.returns-in_err-value
returns-in_err-value c =
    rw c.from_residual-in_err-value.ensures
    (value_after-most _ _ c.loop-digit.value c.loop-digit.digit-index c.args.digits.now (omega arith) c.loop-digit.invariant
    (omega (arith, c.in_ok-tenfold.ensures, c.in_err-value.ensures)))
