use Rattle.std.proofs.Common.{refl, sym, ◌∙◌}
use Rattle.report_audit.proofs.lines.ListLemmas.{so_far_stuck, so_far_more, shorter_after}
use Rattle.report_audit.proofs.lines.StopLemmas.{stop_item}
use Rattle.report_audit.proofs.lines.lists.stops_to_end.Goals as goal

pub returns-in_default : goal.returns-in_default
returns-in_default c = so_far_stuck stop_item c.loop-rest.invariant (sym c.is_empty.ensures ∙ c.loop-rest-test.true) c.in_default.ensures

pub loop-rest-smaller : goal.loop-rest-smaller
loop-rest-smaller c = shorter_after stop_item c.in-Some.ensures

pub loop-rest-preserved : goal.loop-rest-preserved
loop-rest-preserved c = so_far_more stop_item c.loop-rest.invariant c.in-Some.ensures c.in_ok-push.ensures.items refl
