use Rattle.dispatch_report.proofs.LineLemmas.{as_text}
use Rattle.dispatch_report.proofs.step.write_step.Goals as goal

pub returns : goal.returns
returns g c = as_text c.clear.ensures.items c.write_entry.ensures c.write_rest.ensures
