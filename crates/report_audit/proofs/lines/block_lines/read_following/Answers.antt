use Rattle.std.proofs.Common.{◌≡◌, false, sym, ap, ◌∙◌}
use Rattle.report_audit.proofs.Common.{may_follow_at}
use Rattle.report_audit.proofs.lines.OneLine.{block_line_of_one}
use Rattle.report_audit.proofs.lines.block_lines.read_following.Goals as goal

pub returns-else-may_follow : goal.returns-else-may_follow
returns-else-may_follow c x is follows e =
    let found = rw c.in-Some.is at c.in_ok-found.ensures in
    let same = block_line_of_one c.in-Some.found x found.0 is (sym found.1 ∙ e) in
    let refused : may_follow_at c.args.place c.in-Some.found ≡ false = sym c.may_follow.ensures ∙ c.if-may_follow.false in
    let equal = ap (may_follow_at c.args.place) same in
    cc
