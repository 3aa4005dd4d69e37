use Rattle.std.proofs.Common.{rules, ◌≢◌, []}
use Rattle.report_audit.proofs.Common.{Extent}
use Rattle.report_audit.proofs.report.FaultLemmas.{cut_here, form_here}
use Rattle.report_audit.proofs.report.line.nothing_behind.Goals as goal

pub returns-in-Some : goal.returns-in-Some
returns-in-Some c = λ settings roads.
    form_here settings roads c.args.report.now c.args.rest.now Extent.finished c.line_at-line.result c.line_at-line.ensures
    (c.in-Some._line.0.now, c.in-Some._line.1.now, record { whole = c.in-Some.ensures.0; one = c.in-Some.ensures.1 }, λ none. none)

pub returns-in-None : goal.returns-in-None
returns-in-None c = λ settings roads.
    let some : c.args.rest.now ≢ [] = search rules in
    cut_here settings roads c.args.report.now c.args.rest.now Extent.finished c.line_at-line.result c.line_at-line.ensures (c.in-None.ensures, some)
