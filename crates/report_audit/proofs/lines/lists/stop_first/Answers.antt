use Rattle.std.proofs.Common.{◌≤◌}
use Rattle.report_audit.proofs.Common.{IsId}
use Rattle.report_audit.proofs.lines.StopLemmas.{mark_apart, placed_once, stop_none, visit_once}
use Rattle.report_audit.proofs.lemmas.lines.ReadingLemmas.{both_none_first, both_none_second, both_some}
use Rattle.report_audit.proofs.lines.lists.stop_first.Goals as goal

pub returns-in_err-pick : goal.returns-in_err-pick
returns-in_err-pick c = rw c.from_residual.ensures
    (stop_none c.args.text.now (both_none_first (λ n. n ≤ 18446744073709551615) mark_apart.1 (both_none_first IsId mark_apart.0 c.in_err-pick.ensures)))

pub returns-in_err-place : goal.returns-in_err-place
returns-in_err-place c =
    rw c.from_residual-in_err-place.ensures
    (stop_none c.args.text.now (both_none_first (λ n. n ≤ 18446744073709551615) mark_apart.1
    (both_none_second IsId mark_apart.0 visit_once c.in_ok-pick.ensures c.in_err-place.ensures)))

pub returns-in_err-second : goal.returns-in_err-second
returns-in_err-second c =
    rw c.from_residual-in_err-second.ensures
    (stop_none c.args.text.now (both_none_second (λ n. n ≤ 18446744073709551615) mark_apart.1 placed_once (both_some c.in_ok-pick.ensures c.in_ok-place.ensures)
    c.in_err-second.ensures))
