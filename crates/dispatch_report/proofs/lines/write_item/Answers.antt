use Rattle.dispatch_report.proofs.LineLemmas.{line_is}
use Rattle.dispatch_report.proofs.lines.write_item.Goals as goal

pub returns-in-Ok : goal.returns-in-Ok
returns-in-Ok g c = line_is (g.L.Line.text c.args.kind.now c.args.item.now) c.in-Ok.is c.put_item-page.ensures
