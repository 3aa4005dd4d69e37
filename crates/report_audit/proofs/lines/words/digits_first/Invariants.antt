use Rattle.std.proofs.Common.{◌≡◌, true, take}
use Rattle.report_audit.proofs.Common.{is_ascii_digit, list_all}
use Rattle.report_audit.proofs.lines.words.digits_first.Given as goal

abbrev pub invariant-loop-place : goal.invariant-loop-place
invariant-loop-place l = list_all is_ascii_digit (take l.place l.text) ≡ true
