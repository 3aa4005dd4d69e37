use Rattle.std.proofs.Common.{length}
use Rattle.report_audit.proofs.lemmas.lines.OutcomeLemmas.{BlockSoFar}
use Rattle.report_audit.proofs.lines.block_lines.read_block.Given as goal

abbrev pub invariant-loop-place : goal.invariant-loop-place
invariant-loop-place l = BlockSoFar l.fn.text l.lines.items l.rest l.place

abbrev pub decreases-loop-place : goal.decreases-loop-place
decreases-loop-place l = length l.rest
