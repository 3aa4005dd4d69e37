use Rattle.std.proofs.Common.{◌≡◌, fold}
use Rattle.report_audit.proofs.Common.{with_line, told_in}
use Rattle.report_audit.proofs.block.block_lists.take_all.Given as goal

abbrev pub invariant-loop-line : goal.invariant-loop-line
invariant-loop-line l = told_in l.told ≡ fold with_line (told_in l.fn.told) l.yielded
