use Rattle.std.proofs.Common.{rules, ◌≡◌, subst}
use Rattle.report_audit.proofs.Common.{err_from_is_err_and, both_ways, Extent, IsNextLine, NextLine}
use Rattle.report_audit.proofs.report.FaultLemmas.{entry_form, form_here, other_line}
use Rattle.report_audit.proofs.report.line.behind_line.Goals as goal

pub returns-in_err-between : goal.returns-in_err-between
returns-in_err-between c =
    let p = err_from_is_err_and c.from_residual.result c.from_residual.ensures.1 in
    rw (p.1, p.2) (λ settings roads before later position first only. c.in_err-between.ensures settings roads (Extent.between before later position) tt)

pub returns-then-first : goal.returns-then-first
returns-then-first c = λ settings roads before later position is only.
    form_here settings roads c.args.report.now c.args.rest.now (Extent.between before later position) c.line_at.result c.line_at.ensures
    (entry_form before later position c.args.rest.now c.in_ok-between.between.line.now c.in_ok-between.between.after.now c.in-Entry.lane (is.0 c.if-first.true)
    c.in_ok-between.ensures.0
    (subst (λ (x : NextLine). IsNextLine x c.in_ok-between.between.line.now) c.in-Entry.is c.in_ok-between.ensures.1))

pub returns-else-first : goal.returns-else-first
returns-else-first c = λ settings roads before later position is only.
    let other : c.in_ok-between.between.next ≡ c.args.expected → ⊥ = search rules in
    c.wrong_line.ensures settings roads (Extent.between before later position)
    (other_line settings roads before later position c.args.expected c.args.rest.now c.in_ok-between.between.line.now c.in_ok-between.between.after.now
    c.in_ok-between.between.next only
    (λ none. absurd (both_ways _ c.if-first.false (is.1 none))) c.in_ok-between.ensures.0 c.in_ok-between.ensures.1 other)

pub returns-in_default : goal.returns-in_default
returns-in_default c = λ settings roads before later position is only.
    let other : c.in_ok-between.between.next ≡ c.args.expected → ⊥ = search rules in
    c.wrong_line-in_default.ensures settings roads (Extent.between before later position)
    (other_line settings roads before later position c.args.expected c.args.rest.now c.in_ok-between.between.line.now c.in_ok-between.between.after.now
    c.in_ok-between.between.next only
    (λ none. c.in_default.not-Entry) c.in_ok-between.ensures.0 c.in_ok-between.ensures.1 other)
