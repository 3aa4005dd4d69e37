use Rattle.std.proofs.Common.{sym, ◌∙◌, arith}
use Rattle.report_audit.proofs.lemmas.lines.ReadingLemmas.{line_more, pair_once}
use Rattle.report_audit.proofs.lines.block_line.read_pair.Goals as goal

pub returns-else-is_empty : goal.returns-else-is_empty
returns-else-is_empty c =
    line_more (pair_once c.args.words.now c.args.most c.args.other (omega arith) (omega arith)) c.in_ok-pair.ensures
    (sym c.is_empty.ensures ∙ c.if-is_empty.false)
