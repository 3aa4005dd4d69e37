use Rattle.std.proofs.Common.{sym, ◌∙◌}
use Rattle.report_audit.proofs.lines.ListLemmas.{spaced_item, so_far_stuck, so_far_more, shorter_after}
use Rattle.report_audit.proofs.lines.lists.riders_to_end.Goals as goal

pub returns-in_default : goal.returns-in_default
returns-in_default c = so_far_stuck spaced_item c.loop-rest.invariant (sym c.is_empty.ensures ∙ c.loop-rest-test.true) c.in_default.ensures

pub loop-rest-smaller : goal.loop-rest-smaller
loop-rest-smaller c = shorter_after spaced_item c.in-Some.ensures

pub loop-rest-preserved : goal.loop-rest-preserved
loop-rest-preserved c = so_far_more spaced_item c.loop-rest.invariant c.in-Some.ensures c.in_ok-push.ensures.items c.rider.ensures
