use Rattle.std.proofs.Common.{◌≤◌, arith}
use Rattle.report_audit.proofs.lemmas.lines.ReadingLemmas.{both_none_first, both_none_second, numbered_once, spaced_apart}
use Rattle.report_audit.proofs.lines.words.pair_first.Goals as goal

pub returns-in_err-first : goal.returns-in_err-first
returns-in_err-first c = rw c.from_residual.ensures (both_none_first (λ n. n ≤ c.args.other) spaced_apart c.in_err-first.ensures)

pub returns-in_err-second : goal.returns-in_err-second
returns-in_err-second c =
    rw c.from_residual-in_err-second.ensures (both_none_second (λ n. n ≤ c.args.other) spaced_apart (numbered_once c.args.words.now c.args.most (omega arith))
    c.in_ok-first.ensures c.in_err-second.ensures)
