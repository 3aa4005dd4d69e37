use Rattle.std.proofs.Common.{◌≤◌, subst}
use Rattle.report_audit.proofs.Common.{BeginsWith, spaced, IsAnswered, IsTextOf, told_text}
use Rattle.report_audit.proofs.lines.EntryLineLemmas.{command_told, entry_cut, cut_entry, told_command, same_position, same_rest}
use Rattle.report_audit.proofs.lemmas.lines.NumeralLemmas.{not_so}
use Rattle.report_audit.proofs.lines.next.read_entry.Goals as goal

pub returns-in_err-after : goal.returns-in_err-after
returns-in_err-after c = rw c.from_residual.ensures (λ lane is. let x = entry_cut is in c.in_err-after.ensures x.0 x.1 x.3.placed)

pub returns-in_err-lane : goal.returns-in_err-lane
returns-in_err-lane c = rw c.from_residual-in_err-lane.ensures (λ lane is.
    let x = entry_cut is in
    c.in_err-lane.ensures lane x.2 (subst (λ t. BeginsWith spaced (λ n. n ≤ 255) t lane x.2) (same_position c.in_ok-after.ensures x.3) x.3.laned))

pub returns-then-is_told_by_any : goal.returns-then-is_told_by_any
returns-then-is_told_by_any c = cut_entry
    (record { placed = c.in_ok-after.ensures; laned = c.in_ok-lane.ensures; told = command_told (c.is_told_by_any.ensures.0 c.if-is_told_by_any.true) })

pub returns-else-is_told_by_any : goal.returns-else-is_told_by_any
returns-else-is_told_by_any c lane is =
    let x = entry_cut is in
    let same = same_rest c.in_ok-lane.ensures (subst (λ t. BeginsWith spaced (λ n. n ≤ 255) t lane x.2) (same_position c.in_ok-after.ensures x.3) x.3.laned) in
    not_so c.is_told_by_any.result (λ (t : IsTextOf told_text IsAnswered c.in_ok-lane.told.now). c.is_told_by_any.ensures.1 (told_command t))
    c.if-is_told_by_any.false (subst (IsTextOf told_text IsAnswered) same.1 x.3.told)
