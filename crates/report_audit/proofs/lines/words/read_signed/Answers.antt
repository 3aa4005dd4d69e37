use Rattle.std.proofs.Common.{sym, ◌∙◌}
use Rattle.report_audit.proofs.lemmas.lines.ReadingLemmas.{line_none, line_more}
use Rattle.report_audit.proofs.lines.SignedLemmas.{signed_words_once}
use Rattle.report_audit.proofs.lines.words.read_signed.Goals as goal

pub returns-in_err-n : goal.returns-in_err-n
returns-in_err-n c = rw c.from_residual.ensures (line_none c.in_err-n.ensures)

pub returns-else-is_empty : goal.returns-else-is_empty
returns-else-is_empty c = line_more (signed_words_once c.args.words.now) c.in_ok-n.ensures (sym c.is_empty.ensures ∙ c.if-is_empty.false)
