use Rattle.std.proofs.Common.{Some, ap, ◌∙◌}
use Rattle.report_audit.proofs.lines.CommandLemmas.{four_begins, submit_is, submitted}
use Rattle.report_audit.proofs.lines.command.submit_first.Goals as goal

pub returns-in_err-ids-clause-exact : goal.returns-in_err-ids-clause-exact
returns-in_err-ids-clause-exact c =
    λ rider origin destination time party reply is e.
    absurd (c.in_err-ids.ensures _ _ (four_begins rider origin destination time party reply is e))

pub returns-clause-exact : goal.returns-clause-exact
returns-clause-exact c =
    λ rider origin destination time party reply is e.
    ap Some
    (submitted c.rider.ensures c.node.ensures c.node-2.ensures c.second.ensures ∙
    submit_is c.in_ok-ids.ensures c.party_first.ensures rider origin destination time party reply is e)
