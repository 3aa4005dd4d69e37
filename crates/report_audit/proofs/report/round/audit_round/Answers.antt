use Rattle.std.proofs.Common.{List, ap, ◌∙◌, count_by}
use Rattle.report_audit.proofs.Common.{Entry, Journal, closes}
use Rattle.report_audit.proofs.report.RoundLemmas.{round_read}
use Rattle.report_audit.proofs.report.round.audit_round.Goals as goal

pub returns : goal.returns
returns g c = λ vehicles rounds workers before later count between.
    round_read c.args.round.now between c.in-Ok.ensures.2 c.in-Ok.ensures.3 c.take_round.new.self c.closed-batches.result c.in_ok-journal.ensures.next
    (c.closed-batches.ensures ∙ ap (λ (es : List Entry). count_by (λ e. closes e.command e.reply) es)
    (c.as_slice.ensures ∙ ap (λ (j : Journal). j.entries) c.in_ok-journal.ensures.journal))
