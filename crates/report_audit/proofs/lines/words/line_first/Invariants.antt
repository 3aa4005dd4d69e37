use Rattle.std.proofs.Common.{◌≡◌, true, take}
use Rattle.report_audit.proofs.Common.{is_one_line}
use Rattle.report_audit.proofs.lines.words.line_first.Given as goal

abbrev pub invariant-loop-place : goal.invariant-loop-place
invariant-loop-place l = is_one_line (take l.place l.text) ≡ true
