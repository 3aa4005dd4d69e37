use Rattle.report_audit.proofs.Common.{IsWide, signed}
use Rattle.report_audit.proofs.lemmas.lines.ReadingLemmas.{behind_none_words, behind_read}
use Rattle.report_audit.proofs.lines.words.signed_words_first.Goals as goal
use Rattle.std.specs.Fmt.{signed_decimal}

pub returns-in_err-after : goal.returns-in_err-after
unfolding signed
returns-in_err-after c = rw c.from_residual.ensures (behind_none_words signed_decimal IsWide c.args.words.now c.args.text.now c.in_err-after.ensures)

pub returns : goal.returns
unfolding signed
returns c = behind_read signed_decimal IsWide c.args.words.now c.args.text.now c.in_ok-after.after.now c.signed_first.result c.in_ok-after.ensures
    c.signed_first.ensures
