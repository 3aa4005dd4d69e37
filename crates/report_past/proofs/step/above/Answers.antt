use Rattle.std.proofs.Common.{◌<◌, refl, subst, sym, arith}
use Rattle.report_past.specs.work.Reading.{IsAbove}
use Rattle.report_past.proofs.step.above.Goals as goal

pub returns-then-number-before : goal.returns-then-number-before
returns-then-number-before c = (
  refl,
  subst (λ last. IsAbove last c.args.number) (sym c.in-Some.is) (omega (arith, c.if-number-before.true)),
  omega
      (arith, c.if-number-gt1000000000.false),
)

pub returns-in-None : goal.returns-in-None
returns-in-None c = (refl, subst (λ last. IsAbove last c.args.number) (sym c.in-None.is) tt, omega (arith, c.if-number-gt1000000000.false))

pub returns-then-number-gt1000000000 : goal.returns-then-number-gt1000000000
returns-then-number-gt1000000000 c = λ is. omega (arith, is.1, c.if-number-gt1000000000.true)

pub returns-else-number-before : goal.returns-else-number-before
returns-else-number-before c = λ is.
    let above : c.in-Some.before < c.args.number = subst (λ last. IsAbove last c.args.number) c.in-Some.is is.0 in
    omega (arith, above, c.if-number-before.false)
