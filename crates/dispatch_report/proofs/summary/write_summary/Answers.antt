use Rattle.std.proofs.Common.{ap}
use Rattle.std.specs.List.{flat_map}
use Rattle.dispatch_report.proofs.Common.{summary_text}
use Rattle.dispatch_report.proofs.SummaryLemmas.{entry_summary}
use Rattle.dispatch_report.proofs.LineLemmas.{as_text, same_lines}
use Rattle.dispatch_report.proofs.summary.write_summary.Goals as goal

pub returns : goal.returns
unfolding summary_text
returns g c =
    as_text c.new-piece.ensures.items (same_lines _ _ (ap (λ es. flat_map entry_summary es) c.as_slice.ensures) c.write_batches.ensures) c.write_rest.ensures
