use Rattle.std.proofs.Common.{◌∷◌}
use Rattle.report_audit.proofs.Common.{both_ways}
use Rattle.report_audit.proofs.report.RoundLemmas.{fault_within, in_round, one_more_read, only_round}
use Rattle.report_audit.proofs.report.round.audit_entries.Goals as goal

pub returns-in-Err : goal.returns-in-Err
returns-in-Err g c = λ vehicles rounds workers before later count between.
    c.in-Err.ensures c.args.context.now.settings.now c.args.context.now.network.now before (c.args.round.now ∷ later) c.args.book.now.first between.is_first
    (only_round c.args.round.now later c.number-number.result c.args.book.now.first c.number-number.ensures.value c.number-number.ensures.within)
    vehicles rounds workers between.read between.audited between.whole between.right

pub entries-init : goal.entries-init
entries-init g c =
    in_round c.args.round.now c.requires c.keeps.ensures c.in_ok-lanes.lanes c.in_ok-lanes.ensures.stands (c.in_ok-lanes.ensures.come c.args.round.now)
    c.args.text.now c.in-Ok.ensures.0 c.in-Ok.rest.now c.in-Ok.ensures.1 c.number-number.result c.number-number.ensures.value c.in-Ok.ensures.2

pub entries-preserved : goal.entries-preserved
entries-preserved g c = one_more_read c.args.round.now c.entries.invariant c.in-Ok-audit_entry.ensures

pub returns-in-Err-audit_entry : goal.returns-in-Err-audit_entry
returns-in-Err-audit_entry g c = λ vehicles rounds workers before later count between.
    fault_within c.args.round.now between c.entries.invariant (λ done. absurd (both_ways _ c.entries-test.true (c.are_done.ensures.1 done)))
    c.in-Err-audit_entry.fault c.in-Err-audit_entry.ensures

pub returns : goal.returns
returns g c = (c.entries.lanes, c.entries.sealed, c.entries.invariant, c.are_done.ensures.0 c.entries-test.false)
