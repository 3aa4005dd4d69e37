use Rattle.std.proofs.Common.{◌≡◌, drop}
use Rattle.report_audit.proofs.Common.{value_of, value_after}
use Rattle.report_audit.proofs.lines.words.value_of_digits.Given as goal

abbrev pub invariant-loop-digit : goal.invariant-loop-digit
invariant-loop-digit l = value_after l.value (drop l.digit-index l.digits) ≡ value_of l.digits
