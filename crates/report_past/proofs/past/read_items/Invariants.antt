use Rattle.std.proofs.Common.{length}
use Rattle.report_past.specs.work.Left.{StaysLeft}
use Rattle.report_past.specs.work.Reading.{stand}
use Rattle.report_past.specs.work.Taking.{Reached}
use Rattle.report_past.proofs.past.read_items.Given as goal

abbrev pub invariant-items : goal.invariant-items
invariant-items g l =
    Reached l.context.settings.now l.context.network.now l.context.fleet.now l.context.judge l.context.text.now
    (stand l.last l.book l.open l.notices.items) l.rest
    × StaysLeft l.context.settings.now l.context.network.now (stand l.fn.last l.fn.book l.fn.open l.fn.notices.items) l.context.text.now
    (stand l.last l.book l.open l.notices.items) l.rest

abbrev pub decreases-items : goal.decreases-items
decreases-items g l = length l.rest
