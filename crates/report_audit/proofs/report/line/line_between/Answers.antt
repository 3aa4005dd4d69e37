use Rattle.report_audit.proofs.report.FaultLemmas.{cut_here, form_here, open_cut, open_form}
use Rattle.report_audit.proofs.report.line.line_between.Goals as goal

pub returns-in_default : goal.returns-in_default
returns-in_default c = λ settings roads place is.
    cut_here settings roads c.args.report.now c.args.rest.now place c.line_at.result c.line_at.ensures (open_cut place c.args.rest.now is c.in_default.ensures)

pub returns-in-None : goal.returns-in-None
returns-in-None c = λ settings roads place is.
    form_here settings roads c.args.report.now c.args.rest.now place c.line_at-in-None.result c.line_at-in-None.ensures
    (open_form place c.args.rest.now c.in-Some.line.now c.in-Some.after.now is (record { whole = c.in-Some.ensures.0; one = c.in-Some.ensures.1 })
    c.in-None.ensures)
