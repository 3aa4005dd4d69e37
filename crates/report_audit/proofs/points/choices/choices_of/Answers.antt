use Rattle.plan_rules.proofs.lemmas.ValueLemmas.{starts_rise}
use Rattle.report_audit.proofs.lemmas.points.ChoiceLemmas.{rows_counted}
use Rattle.report_audit.proofs.points.choices.choices_of.Goals as goal

pub overflow_sub-rows : goal.overflow_sub-rows
overflow_sub-rows c = starts_rise c.args.graph.now c.args.vehicle c.first_row-2.result c.first_row.result c.first_row-2.ensures c.first_row.ensures

pub returns-clause-value : goal.returns-clause-value
returns-clause-value c =
    let up = starts_rise c.args.graph.now c.args.vehicle c.first_row-2.result c.first_row.result c.first_row-2.ensures c.first_row.ensures in
    let rows = rows_counted c.args.graph.now c.args.vehicle c.first_row-2.result c.first_row.result up c.first_row-2.ensures c.first_row.ensures in
    rw rows c.max.ensures
