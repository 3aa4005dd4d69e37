use Rattle.report_audit.proofs.lemmas.lines.OutcomeLemmas.{block_more}
use Rattle.report_audit.proofs.lines.block_lines.read_block.Goals as goal

pub loop-place-preserved : goal.loop-place-preserved
loop-place-preserved c =
    let found = rw c.in-Some-2.is at c.in_ok-found.ensures in
    block_more c.in-Some-2.found c.loop-place.invariant c.in-Some.ensures.0 found.0 found.1 found.2 c.order_of-place.ensures.place c.in_ok-push.ensures.items
