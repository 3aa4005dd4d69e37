use Rattle.std.proofs.Common.{ap, ◌∙◌}
use Rattle.dispatch_engine.proofs.Common.{trip_row_line}
use Rattle.dispatch_engine.proofs.outcome.ListLemmas.{map_pushed}
use Rattle.dispatch_engine.proofs.outcome.lines.trip_row_lines.Goals as goal

pub loop-row-preserved : goal.loop-row-preserved
loop-row-preserved c = map_pushed (trip_row_line c.args.settled.now) c.args.rows.now c.loop-row.row-index c.row-item.result _ _ _ c.loop-row-test.true
    c.loop-row.invariant c.in_ok-push.ensures.items (c.line_of.ensures ∙ ap (trip_row_line c.args.settled.now) c.row-item.is)
