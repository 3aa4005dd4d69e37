use Rattle.std.proofs.Common.{sym, ◌∙◌}
use Rattle.report_audit.proofs.lines.ListLemmas.{so_far_stuck, so_far_more}
use Rattle.report_audit.proofs.lines.SignedLemmas.{long_item, long_same}
use Rattle.report_audit.proofs.lines.lists.multipliers_to_end.Goals as goal

pub returns-in_default : goal.returns-in_default
returns-in_default c = so_far_stuck long_item c.loop-rest.invariant (sym c.is_empty.ensures ∙ c.loop-rest-test.true) c.in_default.ensures

pub loop-rest-preserved : goal.loop-rest-preserved
loop-rest-preserved c = so_far_more long_item c.loop-rest.invariant c.in-Some.ensures c.in_ok-push.ensures.items
    (long_same c.in-Some.n c.in-Some.ensures.lawful)
