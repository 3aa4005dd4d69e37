use Rattle.std.proofs.Common.{◌≤◌, decimal}
use Rattle.report_audit.proofs.Common.{numbered}
use Rattle.report_audit.proofs.lemmas.lines.ReadingLemmas.{behind_none_words, behind_read}
use Rattle.report_audit.proofs.lines.words.numbered_first.Goals as goal

pub returns-in_err-after : goal.returns-in_err-after
unfolding numbered
returns-in_err-after c = rw c.from_residual.ensures (behind_none_words decimal (λ n. n ≤ c.args.most) c.args.words.now c.args.text.now c.in_err-after.ensures)

pub returns : goal.returns
unfolding numbered
returns c = behind_read decimal (λ n. n ≤ c.args.most) c.args.words.now c.args.text.now c.in_ok-after.after.now c.number_first.result c.in_ok-after.ensures
    c.number_first.ensures
