use Rattle.std.proofs.Common.{◌<◌, length, arith}
use Rattle.dispatch_report.proofs.SummaryLemmas.{entry_summary}
use Rattle.dispatch_report.proofs.LineLemmas.{no_lines, then, same_lines, flat_map-next}
use Rattle.dispatch_report.proofs.summary.write_batches.Goals as goal

pub loop-entry-init : goal.loop-entry-init
loop-entry-init g c = no_lines _ _

pub loop-entry-preserved : goal.loop-entry-preserved
loop-entry-preserved g c =
    let entries = c.args.entries.now in
    let within : c.loop-entry.entry-index < length entries = omega arith in
    same_lines _ _ (flat_map-next entry_summary entries c.loop-entry.entry-index c.entry-item.result within c.entry-item.is)
    (then c.loop-entry.invariant c.write_entry_summary.ensures)
