use Rattle.std.proofs.Common.{ap}
use Rattle.dispatch_report.proofs.Common.{entries_lines, round_text}
use Rattle.dispatch_report.proofs.LineLemmas.{as_text, same_lines, then}
use Rattle.dispatch_report.proofs.round.write_round.Goals as goal

pub returns : goal.returns
unfolding round_text
returns g c =
    let entries = same_lines _ _ (ap (λ es. entries_lines c.args.proof c.args.journal.now.first es) c.as_slice-entries.ensures) c.write_entries.ensures in
    as_text c.new-piece.ensures.items (then c.write_round_line.ensures entries) c.write_rest.ensures
