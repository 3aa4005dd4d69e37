use Rattle.std.proofs.Common.{ap, subst, sym, arith}
use Rattle.report_audit.proofs.Common.{IsToldBy, fields_of}
use Rattle.report_audit.proofs.lines.EntryLineLemmas.{told_first}
use Rattle.report_audit.proofs.lines.next.+is_told_by.Goals as goal

pub returns-then-n-least : goal.returns-then-n-least
returns-then-n-least t c = (
  λ on. absurd cc,
  λ told.
      let first = told_first _ _ (omega arith) c.in-Some-numbered_first.ensures (subst (λ fs. IsToldBy fs c.args.text.now)
      (ap fields_of c.in-Some.ensures.cases.0) told) in
      absurd (omega (arith, first.0)),
)

pub returns : goal.returns
returns t c = (
  λ on.
      subst (λ fs. IsToldBy fs c.args.text.now) (sym (ap fields_of c.in-Some.ensures.cases.0))
      (c.in-Some-numbered_first.n, c.in-Some-numbered_first.after.now, c.in-Some-numbered_first.ensures, omega arith, c.is_told_by.ensures.0 on),
  λ told.
      c.is_told_by.ensures.1
      (told_first _ _ (omega arith) c.in-Some-numbered_first.ensures (subst (λ fs. IsToldBy fs c.args.text.now) (ap fields_of c.in-Some.ensures.cases.0)
      told)).1,
)
